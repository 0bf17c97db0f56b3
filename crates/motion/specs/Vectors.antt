-- Motions (ω; v) and forces (n; f).
use Rattle.ring.specs.CommRing.{CommRing}
use Rattle.triple.specs.Ops.{Ops, ops}
use Rattle.triple.specs.Triples.{triple, zero3, third3, add3, scale3, dot3, cross3}
use Rattle.motion.specs.declared.vectors.Motion.{Motion}
use Rattle.motion.specs.declared.vectors.Force.{Force}

abbrev pub motion : {S N : Type 0} → (S → N) → Motion S → Motion N
motion f m = record { angular = triple f m.angular; linear = triple f m.linear }

abbrev pub force : {S N : Type 0} → (S → N) → Force S → Force N
force f w = record { moment = triple f w.moment; linear = triple f w.linear }

module _ {N : Type 0} (o : Ops N) where
  abbrev pub motion_zero_by : Motion N
  motion_zero_by = record { angular = zero3 o; linear = zero3 o }

  -- (0, 0, 1; 0, 0, 0)
  abbrev pub unit_turn_by : Motion N
  unit_turn_by = record { angular = third3 o; linear = zero3 o }

  -- (0, 0, 0; 0, 0, 1)
  abbrev pub unit_slide_by : Motion N
  unit_slide_by = record { angular = zero3 o; linear = third3 o }

  abbrev pub motion_add_by : Motion N → Motion N → Motion N
  motion_add_by a b = record { angular = add3 o a.angular b.angular; linear = add3 o a.linear b.linear }

  abbrev pub motion_scale_by : N → Motion N → Motion N
  motion_scale_by s a = record { angular = scale3 o s a.angular; linear = scale3 o s a.linear }

  abbrev pub force_zero_by : Force N
  force_zero_by = record { moment = zero3 o; linear = zero3 o }

  abbrev pub force_add_by : Force N → Force N → Force N
  force_add_by a b = record { moment = add3 o a.moment b.moment; linear = add3 o a.linear b.linear }

  abbrev pub force_scale_by : N → Force N → Force N
  force_scale_by s w = record { moment = scale3 o s w.moment; linear = scale3 o s w.linear }

  -- ω · n + v · f
  abbrev pub pairing_by : Motion N → Force N → N
  pairing_by m w = o.add (dot3 o m.angular w.moment) (dot3 o m.linear w.linear)

  -- (ω × ω'; ω × v' + v × ω')
  abbrev pub motion_cross_by : Motion N → Motion N → Motion N
  motion_cross_by a b =
      record {
        angular = cross3 o a.angular b.angular;
        linear = add3 o (cross3 o a.angular b.linear) (cross3 o a.linear b.angular);
      }

  -- (ω × n + v × f; ω × f)
  abbrev pub force_cross_by : Motion N → Force N → Force N
  force_cross_by a w =
      record {
        moment = add3 o (cross3 o a.angular w.moment) (cross3 o a.linear w.linear);
        linear = cross3 o a.angular w.linear;
      }

-- the same over a ring, and shut: what contracts and laws speak of
module _ {N : Type 0} (k : CommRing N) where
  unfoldable pub motion_zero : Motion N
  motion_zero = motion_zero_by (ops k)

  unfoldable pub unit_turn : Motion N
  unit_turn = unit_turn_by (ops k)

  unfoldable pub unit_slide : Motion N
  unit_slide = unit_slide_by (ops k)

  unfoldable pub motion_add : Motion N → Motion N → Motion N
  motion_add = motion_add_by (ops k)

  unfoldable pub motion_scale : N → Motion N → Motion N
  motion_scale = motion_scale_by (ops k)

  unfoldable pub force_zero : Force N
  force_zero = force_zero_by (ops k)

  unfoldable pub force_add : Force N → Force N → Force N
  force_add = force_add_by (ops k)

  unfoldable pub force_scale : N → Force N → Force N
  force_scale = force_scale_by (ops k)

  unfoldable pub pairing : Motion N → Force N → N
  pairing = pairing_by (ops k)

  unfoldable pub motion_cross : Motion N → Motion N → Motion N
  motion_cross = motion_cross_by (ops k)

  unfoldable pub force_cross : Motion N → Force N → Force N
  force_cross = force_cross_by (ops k)
