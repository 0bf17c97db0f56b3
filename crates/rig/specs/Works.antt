-- What an entry of a work list holds.
use Rattle.ring.specs.CommRing.{CommRing}
use Rattle.triple.specs.Ops.{ops}
use Rattle.triple.specs.Triples.{zero3}
use Rattle.motion.specs.Vectors.{motion, force, motion_zero, force_zero}
use Rattle.inertia.specs.Inertias.{inertia}
use Rattle.rig.specs.declared.work.Work.{Work}

-- each number by f
abbrev pub work : {S N : Type 0} → (S → N) → Work S → Work N
work f w =
    record {
      moving =
          record {
            velocity = motion f w.moving.velocity;
            acceleration = motion f w.moving.acceleration;
            force = force f w.moving.force;
          };
      inertia = inertia f w.inertia;
    }

-- everything zero
abbrev pub blank_work : {N : Type 0} → CommRing N → Work N
blank_work k =
    let o = k.zero in
    record {
      moving = record { velocity = motion_zero k; acceleration = motion_zero k; force = force_zero k };
      inertia =
          record {
            angular = record { xx = o; xy = o; xz = o; yy = o; yz = o; zz = o };
            coupling = record { x = zero3 (ops k); y = zero3 (ops k); z = zero3 (ops k) };
            linear = record { xx = o; xy = o; xz = o; yy = o; yz = o; zz = o };
          };
    }
