-- The torque of a link that turns about a fixed axis, by Newton and Euler.
use Rattle.std.specs.Prelude.{Option}
use Rattle.std.specs.Option.{option_map}
use Rattle.ring.specs.CommRing.{CommRing}
use Rattle.triple.specs.Ops.{ops}
use Rattle.triple.specs.Triples.{triple, zero3, neg3}
use Rattle.motion.specs.Vectors.{motion, force, motion_zero, unit_turn, motion_add, motion_scale, motion_cross, force_add, force_cross, pairing}
use Rattle.spatial.specs.Placements.{outward, turn}
use Rattle.spatial.specs.Links.{link, momentum}
use Rattle.triple.specs.declared.triple.Triple.{Triple}
use Rattle.motion.specs.declared.vectors.Motion.{Motion}
use Rattle.spatial.specs.declared.placement.Placement.{Placement}
use Rattle.pendulum.specs.declared.Pendulum.{Pendulum}
use Rattle.pendulum.specs.declared.Steps.{Steps}

-- each number by f
abbrev pub pendulum : {S N : Type 0} → (S → N) → Pendulum S → Pendulum N
pendulum f p =
    record {
      link = link f p.link;
      gravity = triple f p.gravity;
      position = f p.position;
      rate = f p.rate;
      acceleration = f p.acceleration;
    }

abbrev pub steps : {S N : Type 0} → (S → N) → Steps S → Steps N
steps f s =
    record {
      velocity = motion f s.velocity;
      acceleration = motion f s.acceleration;
      force = force f s.force;
      torque = f s.torque;
    }

module _ {N : Type 0} (k : CommRing N) where
  -- gravity as an acceleration of the base: (0; −g)
  abbrev pub base : Triple N → Motion N
  base g = record { angular = zero3 (ops k); linear = neg3 (ops k) g }

  -- v = X 0 + S q̇, a = X (0; −g) + S q̈ + v × S q̇, f = I a + v ×* I v, and the torque S · f
  abbrev pub newton_euler_at : Pendulum N → Placement N → Steps N
  newton_euler_at p x =
      let spin = motion_scale k p.rate (unit_turn k) in
      let v = motion_add k (outward k x (motion_zero k)) spin in
      let a =
      motion_add k
      (motion_add k (outward k x (base p.gravity)) (motion_scale k p.acceleration (unit_turn k)))
      (motion_cross k v spin) in
      let f = force_add k (momentum k p.link a) (force_cross k v (momentum k p.link v)) in
      record { velocity = v; acceleration = a; force = f; torque = pairing k (unit_turn k) f }

  -- none where the position has no placement
  abbrev pub newton_euler : Pendulum N → Option (Steps N)
  newton_euler p = option_map (newton_euler_at p) (turn k p.position)
