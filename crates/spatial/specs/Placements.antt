-- Placements, and the placement of a joint that turns about its third axis.
use Rattle.std.specs.Prelude.{Option}
use Rattle.std.specs.Option.{option_map}
use Rattle.ring.specs.CommRing.{CommRing}
use Rattle.triple.specs.Ops.{Ops, ops}
use Rattle.triple.specs.Triples.{triple, zero3, add3, sub3, cross3}
use Rattle.linear.specs.Matrices.{matrix, transposed, times}
use Rattle.motion.specs.declared.vectors.Motion.{Motion}
use Rattle.motion.specs.declared.vectors.Force.{Force}
use Rattle.spatial.specs.declared.placement.Placement.{Placement}

abbrev pub placement : {S N : Type 0} → (S → N) → Placement S → Placement N
placement f p = record { rotation = matrix f p.rotation; offset = triple f p.offset }

module _ {N : Type 0} (o : Ops N) where
  open o use {add, mul, neg, zero, one}

  -- X(ω; v) = (E ω; E (v − r × ω))
  abbrev pub outward_by : Placement N → Motion N → Motion N
  outward_by p m =
      record {
        angular = times o p.rotation m.angular;
        linear = times o p.rotation (sub3 o m.linear (cross3 o p.offset m.angular));
      }

  -- X'(n; f) = (Eᵀ n + r × (Eᵀ f); Eᵀ f)
  abbrev pub inward_by : Placement N → Force N → Force N
  inward_by p w =
      let back = transposed p.rotation in
      let f = times o back w.linear in
      record { moment = add3 o (times o back w.moment) (cross3 o p.offset f); linear = f }

  -- 1 + t t
  abbrev pub turn_norm_by : N → N
  turn_norm_by t = add one (mul t t)

  -- the rows (C, s, 0), (−s, C, 0), (0, 0, 1), with C = (1 − t t) i and s = 2 t i
  abbrev pub turned_by : N → N → Placement N
  turned_by t i =
      let c = mul (add one (neg (mul t t))) i in
      let s = mul (add t t) i in
      record {
        rotation =
            record {
              x = record { x = c; y = s; z = zero };
              y = record { x = neg s; y = c; z = zero };
              z = record { x = zero; y = zero; z = one };
            };
        offset = zero3 o;
      }

  -- the identity matrix and the triple (0, 0, q)
  abbrev pub slid_by : N → Placement N
  slid_by q =
      record {
        rotation =
            record {
              x = record { x = one; y = zero; z = zero };
              y = record { x = zero; y = one; z = zero };
              z = record { x = zero; y = zero; z = one };
            };
        offset = record { x = zero; y = zero; z = q };
      }

-- the same over a ring, and shut: what contracts and laws speak of
module _ {N : Type 0} (k : CommRing N) where
  unfoldable pub outward : Placement N → Motion N → Motion N
  outward = outward_by (ops k)

  unfoldable pub inward : Placement N → Force N → Force N
  inward = inward_by (ops k)

  unfoldable pub turn_norm : N → N
  turn_norm = turn_norm_by (ops k)

  unfoldable pub turned : N → N → Placement N
  turned = turned_by (ops k)

  unfoldable pub slid : N → Placement N
  slid = slid_by (ops k)

  -- the placement at the half-angle tangent t: none where 1 + t t is no unit
  abbrev pub turn : N → Option (Placement N)
  turn t = option_map (turned t) (k.inverse (turn_norm t))
