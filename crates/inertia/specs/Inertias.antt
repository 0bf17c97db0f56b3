-- Symmetric inertias, from motions to forces, by three blocks.
use Rattle.ring.specs.CommRing.{CommRing}
use Rattle.triple.specs.Ops.{Ops, ops}
use Rattle.triple.specs.Triples.{add3, scale3}
use Rattle.linear.specs.Matrices.{matrix, transposed, times, matrix_add, conjugate, cross_columns, minus_outer}
use Rattle.symmetric.specs.Symmetrics.{symmetric, full, symmetric_add, symmetric_conjugate, symmetric_minus_outer, leaned}
use Rattle.triple.specs.declared.triple.Triple.{Triple}
use Rattle.linear.specs.declared.matrix.Matrix3.{Matrix3}
use Rattle.motion.specs.declared.vectors.Motion.{Motion}
use Rattle.motion.specs.declared.vectors.Force.{Force}
use Rattle.spatial.specs.declared.placement.Placement.{Placement}
use Rattle.spatial.specs.declared.link.Link.{Link}
use Rattle.inertia.specs.declared.inertia.Inertia.{Inertia}

-- each entry by f
abbrev pub inertia : {S N : Type 0} → (S → N) → Inertia S → Inertia N
inertia f k =
    record { angular = symmetric f k.angular; coupling = matrix f k.coupling; linear = symmetric f k.linear }

module _ {N : Type 0} (o : Ops N) where
  open o use {neg, zero}

  -- K(ω; v) = (angular ω + coupling v; couplingᵀ ω + linear v)
  abbrev pub applied_by : Inertia N → Motion N → Force N
  applied_by k m =
      record {
        moment = add3 o (times o (full k.angular) m.angular) (times o k.coupling m.linear);
        linear = add3 o (times o (transposed k.coupling) m.angular) (times o (full k.linear) m.linear);
      }

  -- J, h × and m of a link
  abbrev pub of_link_by : Link N → Inertia N
  of_link_by l =
      let h = l.first_moment in
      record {
        angular = l.inertia;
        coupling =
            record {
              x = record { x = zero; y = neg h.z; z = h.y };
              y = record { x = h.z; y = zero; z = neg h.x };
              z = record { x = neg h.y; y = h.x; z = zero };
            };
        linear = record { xx = l.mass; xy = zero; xz = zero; yy = l.mass; yz = zero; zz = l.mass };
      }

  abbrev pub inertia_add_by : Inertia N → Inertia N → Inertia N
  inertia_add_by a b =
      record {
        angular = symmetric_add o a.angular b.angular;
        coupling = matrix_add o a.coupling b.coupling;
        linear = symmetric_add o a.linear b.linear;
      }

  -- each block turned: Eᵀ · E
  abbrev pub turned_by : Matrix3 N → Inertia N → Inertia N
  turned_by e k =
      record {
        angular = symmetric_conjugate o e k.angular;
        coupling = conjugate o e k.coupling;
        linear = symmetric_conjugate o e k.linear;
      }

  -- seen from an origin that lies at −r
  abbrev pub shifted_by : Triple N → Inertia N → Inertia N
  shifted_by r k =
      let d = matrix_add o k.coupling (cross_columns o r (full k.linear)) in
      record { angular = leaned o r k.coupling d k.angular; coupling = d; linear = k.linear }

  -- K − d U Uᵀ
  abbrev pub minus_outer_by : N → Force N → Inertia N → Inertia N
  minus_outer_by d u k =
      let n = scale3 o d u.moment in
      let f = scale3 o d u.linear in
      record {
        angular = symmetric_minus_outer o n u.moment k.angular;
        coupling = minus_outer o n u.linear k.coupling;
        linear = symmetric_minus_outer o f u.linear k.linear;
      }

-- the same over a ring, and shut: what contracts and laws speak of
module _ {N : Type 0} (k : CommRing N) where
  unfoldable pub applied : Inertia N → Motion N → Force N
  applied = applied_by (ops k)

  unfoldable pub of_link : Link N → Inertia N
  of_link = of_link_by (ops k)

  unfoldable pub inertia_add : Inertia N → Inertia N → Inertia N
  inertia_add = inertia_add_by (ops k)

  unfoldable pub turned_inertia : Matrix3 N → Inertia N → Inertia N
  turned_inertia = turned_by (ops k)

  unfoldable pub shifted_inertia : Triple N → Inertia N → Inertia N
  shifted_inertia = shifted_by (ops k)

  -- X' K X
  abbrev pub carried : Placement N → Inertia N → Inertia N
  carried p a = shifted_inertia p.offset (turned_inertia p.rotation a)

  unfoldable pub inertia_minus_outer : N → Force N → Inertia N → Inertia N
  inertia_minus_outer = minus_outer_by (ops k)
