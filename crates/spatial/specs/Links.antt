-- Links: mass m, first moment h and the symmetric matrix J about the link's origin.
use Rattle.ring.specs.CommRing.{CommRing}
use Rattle.triple.specs.Ops.{Ops, ops}
use Rattle.triple.specs.Triples.{triple, add3, sub3, scale3, cross3}
use Rattle.linear.specs.Matrices.{times}
use Rattle.symmetric.specs.Symmetrics.{symmetric, full}
use Rattle.motion.specs.declared.vectors.Motion.{Motion}
use Rattle.motion.specs.declared.vectors.Force.{Force}
use Rattle.spatial.specs.declared.link.Link.{Link}

abbrev pub link : {S N : Type 0} → (S → N) → Link S → Link N
link f l =
    record { mass = f l.mass; first_moment = triple f l.first_moment; inertia = symmetric f l.inertia }

-- (J ω + h × v; m v − h × ω)
abbrev pub momentum_by : {N : Type 0} → Ops N → Link N → Motion N → Force N
momentum_by o l m =
    record {
      moment = add3 o (times o (full l.inertia) m.angular) (cross3 o l.first_moment m.linear);
      linear = sub3 o (scale3 o l.mass m.linear) (cross3 o l.first_moment m.angular);
    }

unfoldable pub momentum : {N : Type 0} → CommRing N → Link N → Motion N → Force N
momentum k = momentum_by (ops k)
