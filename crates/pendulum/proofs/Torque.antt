-- Newton and Euler's torque is that of the equation of motion.
use Rattle.std.proofs.Common.{◌≡◌, List, [], ◌∷◌, ◌++◌, get_or, Some, None, Option, refl}
use Rattle.std.specs.Option.{option_map}
use Rattle.ring.specs.CommRing.{CommRing}
use Rattle.ring.proofs.Solve.{Term, var, solve}
use Rattle.triple.specs.Ops.{Ops, ops}
use Rattle.triple.specs.Triples.{zero3, neg3}
use Rattle.motion.specs.Vectors.{motion_zero, unit_turn, motion_add, motion_scale, motion_cross, force_add, force_cross, pairing, motion_zero_by, unit_turn_by, motion_add_by, motion_scale_by, motion_cross_by, force_add_by, force_cross_by, pairing_by}
use Rattle.spatial.specs.Placements.{outward, turned, turn_norm, outward_by, turned_by}
use Rattle.spatial.specs.Links.{momentum, momentum_by}
use Rattle.motion.specs.declared.vectors.Motion.{Motion}
use Rattle.spatial.proofs.Quote.{terms, triple_vars, link_vars, triple_list, link_list}
use Rattle.pendulum.specs.NewtonEuler.{newton_euler_at, newton_euler}
use Rattle.pendulum.specs.Equation.{equation_by, equation}
use Rattle.pendulum.specs.declared.Pendulum.{Pendulum}

-- the torque by entries
abbrev torque_by : {N : Type 0} → Ops N → Pendulum N → N → N
torque_by {N} o p i =
    let x = turned_by o p.position i in
    let base : Motion N = record { angular = zero3 o; linear = neg3 o p.gravity } in
    let spin = motion_scale_by o p.rate (unit_turn_by o) in
    let v = motion_add_by o (outward_by o x (motion_zero_by o)) spin in
    let a =
    motion_add_by o
    (motion_add_by o (outward_by o x base) (motion_scale_by o p.acceleration (unit_turn_by o)))
    (motion_cross_by o v spin) in
    pairing_by o (unit_turn_by o) (force_add_by o (momentum_by o p.link a) (force_cross_by o v (momentum_by o p.link v)))

abbrev vars : Pendulum Term
vars = record { link = link_vars 0; gravity = triple_vars 10; position = var 13; rate = var 14; acceleration = var 15 }

module _ {N : Type 0} (k : CommRing N) (p : Pendulum N) where
  abbrev numbers : N → List N
  numbers i = link_list p.link ++ (triple_list p.gravity ++ (p.position ∷ p.rate ∷ p.acceleration ∷ i ∷ []))

  torque_is : (i : N) → (newton_euler_at k p (turned k p.position i)).torque ≡ equation_by (ops k) p i
  unfolding motion_zero unit_turn motion_add motion_scale motion_cross force_add force_cross pairing outward turned momentum
  torque_is i =
      solve k (λ j. get_or (numbers i) j k.zero) (torque_by terms vars (var 16)) (equation_by terms vars (var 16)) refl

  pub torque_equation : option_map (λ s. s.torque) (newton_euler k p) ≡ equation k p
  torque_equation = by (k.inverse (turn_norm k p.position))
    where
      by :
          (o : Option N)
          → option_map (λ s. s.torque) (option_map (newton_euler_at k p) (option_map (turned k p.position) o))
          ≡ option_map (equation_by (ops k) p) o
      by None = refl
      by (Some i) = λ j. Some (torque_is i j)
