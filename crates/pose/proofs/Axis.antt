-- What a joint's axis picks, in every ring.
use mathlib.Core.Path.{◌≡◌, refl, ◌∙◌}
use mathlib.Core.List.{List, [], ◌∷◌, ◌++◌}
use Prim.Native.Nat.{ℕ, ◌+◌}
use Rattle.ring.specs.CommRing.{CommRing}
use Rattle.ring.proofs.Solve.{Term, var}
use Rattle.triple.specs.Ops.{Ops, ops}
use Rattle.triple.specs.Triples.{zero3}
use Rattle.motion.specs.Vectors.{motion_scale, motion_scale_by, pairing, pairing_by, unit_turn, unit_turn_by, unit_slide, unit_slide_by}
use Rattle.motion.specs.declared.vectors.Motion.{Motion}
use Rattle.motion.specs.declared.vectors.Force.{Force}
use Rattle.spatial.proofs.Quote.{terms, symmetric_vars, matrix_vars, force_vars, symmetric_list, matrix_list, force_list, solve_number, solve_motion, solve_force}
use Rattle.inertia.specs.Inertias.{applied, applied_by}
use Rattle.inertia.specs.declared.inertia.Inertia.{Inertia}

-- variables for the entries, numbered from n
abbrev inertia_vars : ℕ → Inertia Term
inertia_vars n = record { angular = symmetric_vars n; coupling = matrix_vars (n + 6); linear = symmetric_vars (n + 15) }

-- the entries themselves, in the same order
abbrev inertia_list : {N : Type 0} → Inertia N → List N
inertia_list k = symmetric_list k.angular ++ (matrix_list k.coupling ++ symmetric_list k.linear)

module _ {N : Type 0} (o : Ops N) where
  abbrev turning : N → Motion N
  turning x = record { angular = record { x = o.zero; y = o.zero; z = x }; linear = zero3 o }

  abbrev sliding : N → Motion N
  sliding x = record { angular = zero3 o; linear = record { x = o.zero; y = o.zero; z = x } }

module _ {N : Type 0} (k : CommRing N) where
  along_turn : (x : N) → turning (ops k) x ≡ motion_scale k x (unit_turn k)
  unfolding motion_scale unit_turn
  along_turn x = solve_motion k (x ∷ []) (turning terms (var 0)) (motion_scale_by terms (var 0) (unit_turn_by terms)) refl

  pub turning_is :
      (x : N) {o : N} → o ≡ k.zero
      → ◌≡◌ {A = Motion N} (record { angular = record { x = o; y = o; z = x }; linear = record { x = o; y = o; z = o } })
      (motion_scale k x (unit_turn k))
  turning_is x e =
      (λ i. record { angular = record { x = e i; y = e i; z = x }; linear = record { x = e i; y = e i; z = e i } })
      ∙ along_turn x

  along_slide : (x : N) → sliding (ops k) x ≡ motion_scale k x (unit_slide k)
  unfolding motion_scale unit_slide
  along_slide x = solve_motion k (x ∷ []) (sliding terms (var 0)) (motion_scale_by terms (var 0) (unit_slide_by terms)) refl

  pub sliding_is :
      (x : N) {o : N} → o ≡ k.zero
      → ◌≡◌ {A = Motion N} (record { angular = record { x = o; y = o; z = o }; linear = record { x = o; y = o; z = x } })
      (motion_scale k x (unit_slide k))
  sliding_is x e =
      (λ i. record { angular = record { x = e i; y = e i; z = e i }; linear = record { x = e i; y = e i; z = x } })
      ∙ along_slide x

  pub component_turn : (w : Force N) → w.moment.z ≡ pairing k (unit_turn k) w
  unfolding pairing unit_turn
  component_turn w = solve_number k (force_list w) (var 2) (pairing_by terms (unit_turn_by terms) (force_vars 0)) refl

  pub component_slide : (w : Force N) → w.linear.z ≡ pairing k (unit_slide k) w
  unfolding pairing unit_slide
  component_slide w = solve_number k (force_list w) (var 5) (pairing_by terms (unit_slide_by terms) (force_vars 0)) refl

  pub column_turn :
      (a : Inertia N)
      → ◌≡◌ {A = Force N} (record { moment = record { x = a.angular.xz; y = a.angular.yz; z = a.angular.zz }; linear = a.coupling.z })
      (applied k a (unit_turn k))
  unfolding applied unit_turn
  column_turn a =
      let v = inertia_vars 0 in
      solve_force k (inertia_list a)
      (record { moment = record { x = v.angular.xz; y = v.angular.yz; z = v.angular.zz }; linear = v.coupling.z })
      (applied_by terms v (unit_turn_by terms))
      refl

  pub column_slide :
      (a : Inertia N)
      → ◌≡◌ {A = Force N} (record { moment = record { x = a.coupling.x.z; y = a.coupling.y.z; z = a.coupling.z.z }; linear = record { x = a.linear.xz; y = a.linear.yz; z = a.linear.zz } })
      (applied k a (unit_slide k))
  unfolding applied unit_slide
  column_slide a =
      let v = inertia_vars 0 in
      solve_force k (inertia_list a)
      (record { moment = record { x = v.coupling.x.z; y = v.coupling.y.z; z = v.coupling.z.z }; linear = record { x = v.linear.xz; y = v.linear.yz; z = v.linear.zz } })
      (applied_by terms v (unit_slide_by terms))
      refl
