-- The laws of motions, forces, placements and inertias, in every ring.
use Rattle.std.proofs.Common.{◌≡◌, [], ◌∷◌, ◌++◌, refl, ap, ◌∙◌}
use Rattle.ring.specs.CommRing.{CommRing}
use Rattle.ring.proofs.Solve.{var}
use Rattle.triple.specs.Ops.{Ops, ops}
use Rattle.triple.specs.Triples.{add3, sub3, cross3}
use Rattle.linear.specs.Matrices.{times, transposed}
use Rattle.triple.specs.declared.triple.Triple.{Triple}
use Rattle.linear.specs.declared.matrix.Matrix3.{Matrix3}
use Rattle.motion.specs.Vectors.{motion_add, motion_add_by, motion_scale, motion_scale_by, force_add, force_add_by, force_scale, force_scale_by, pairing, pairing_by, motion_cross, motion_cross_by, force_cross, force_cross_by}
use Rattle.spatial.specs.Placements.{outward, outward_by, inward, inward_by}
use Rattle.spatial.specs.Links.{momentum, momentum_by}
use Rattle.motion.specs.declared.vectors.Motion.{Motion}
use Rattle.motion.specs.declared.vectors.Force.{Force}
use Rattle.spatial.specs.declared.placement.Placement.{Placement}
use Rattle.spatial.specs.declared.link.Link.{Link}
use Rattle.inertia.specs.Inertias.{of_link, of_link_by, applied, applied_by, inertia_add, inertia_add_by, turned_inertia, turned_by, shifted_inertia, shifted_by, carried, inertia_minus_outer, minus_outer_by}
use Rattle.inertia.specs.declared.inertia.Inertia.{Inertia}
use Rattle.spatial.proofs.Quote.{terms, triple_vars, matrix_vars, motion_vars, force_vars, link_vars, placement_vars, triple_list, matrix_list, motion_list, force_list, link_list, placement_list, solve_number, solve_motion, solve_force}
use Rattle.spatial_laws.proofs.Quote.{inertia_vars, inertia_list}

module _ {N : Type 0} (k : CommRing N) where
  pub adjoint : (p : Placement N) (m : Motion N) (f : Force N) → pairing k (outward k p m) f ≡ pairing k m (inward k p f)
  unfolding pairing outward inward
  adjoint p m f =
      solve_number k (placement_list p ++ (motion_list m ++ force_list f))
      (pairing_by terms (outward_by terms (placement_vars 0) (motion_vars 12)) (force_vars 18))
      (pairing_by terms (motion_vars 12) (inward_by terms (placement_vars 0) (force_vars 18)))
      refl

  pub outward_add : (p : Placement N) (m n : Motion N) → outward k p (motion_add k m n) ≡ motion_add k (outward k p m) (outward k p n)
  unfolding motion_add outward
  outward_add p m n =
      solve_motion k (placement_list p ++ (motion_list m ++ motion_list n))
      (outward_by terms (placement_vars 0) (motion_add_by terms (motion_vars 12) (motion_vars 18)))
      (motion_add_by terms (outward_by terms (placement_vars 0) (motion_vars 12)) (outward_by terms (placement_vars 0) (motion_vars 18)))
      refl

  pub outward_scale : (p : Placement N) (s : N) (m : Motion N) → outward k p (motion_scale k s m) ≡ motion_scale k s (outward k p m)
  unfolding motion_scale outward
  outward_scale p s m =
      solve_motion k (placement_list p ++ (motion_list m ++ (s ∷ [])))
      (outward_by terms (placement_vars 0) (motion_scale_by terms (var 18) (motion_vars 12)))
      (motion_scale_by terms (var 18) (outward_by terms (placement_vars 0) (motion_vars 12)))
      refl

  pub inward_add : (p : Placement N) (f g : Force N) → inward k p (force_add k f g) ≡ force_add k (inward k p f) (inward k p g)
  unfolding force_add inward
  inward_add p f g =
      solve_force k (placement_list p ++ (force_list f ++ force_list g))
      (inward_by terms (placement_vars 0) (force_add_by terms (force_vars 12) (force_vars 18)))
      (force_add_by terms (inward_by terms (placement_vars 0) (force_vars 12)) (inward_by terms (placement_vars 0) (force_vars 18)))
      refl

  pub inward_scale : (p : Placement N) (s : N) (f : Force N) → inward k p (force_scale k s f) ≡ force_scale k s (inward k p f)
  unfolding force_scale inward
  inward_scale p s f =
      solve_force k (placement_list p ++ (force_list f ++ (s ∷ [])))
      (inward_by terms (placement_vars 0) (force_scale_by terms (var 18) (force_vars 12)))
      (force_scale_by terms (var 18) (inward_by terms (placement_vars 0) (force_vars 12)))
      refl

  -- a link's inertia is a general one
  pub link_is_inertia : (l : Link N) (m : Motion N) → momentum k l m ≡ applied k (of_link k l) m
  unfolding momentum of_link applied
  link_is_inertia l m = solve_force k (link_list l ++ motion_list m) (momentum_by terms (link_vars 0) (motion_vars 10)) (applied_by terms (of_link_by terms (link_vars 0)) (motion_vars 10)) refl

  pub applied_add : (a : Inertia N) (m n : Motion N) → applied k a (motion_add k m n) ≡ force_add k (applied k a m) (applied k a n)
  unfolding motion_add force_add applied
  applied_add a m n =
      solve_force k (inertia_list a ++ (motion_list m ++ motion_list n))
      (applied_by terms (inertia_vars 0) (motion_add_by terms (motion_vars 21) (motion_vars 27)))
      (force_add_by terms (applied_by terms (inertia_vars 0) (motion_vars 21)) (applied_by terms (inertia_vars 0) (motion_vars 27)))
      refl

  pub applied_scale : (a : Inertia N) (s : N) (m : Motion N) → applied k a (motion_scale k s m) ≡ force_scale k s (applied k a m)
  unfolding motion_scale force_scale applied
  applied_scale a s m =
      solve_force k (inertia_list a ++ (motion_list m ++ (s ∷ [])))
      (applied_by terms (inertia_vars 0) (motion_scale_by terms (var 27) (motion_vars 21)))
      (force_scale_by terms (var 27) (applied_by terms (inertia_vars 0) (motion_vars 21)))
      refl

  pub applied_symmetric : (a : Inertia N) (m n : Motion N) → pairing k m (applied k a n) ≡ pairing k n (applied k a m)
  unfolding pairing applied
  applied_symmetric a m n =
      solve_number k (inertia_list a ++ (motion_list m ++ motion_list n))
      (pairing_by terms (motion_vars 21) (applied_by terms (inertia_vars 0) (motion_vars 27)))
      (pairing_by terms (motion_vars 27) (applied_by terms (inertia_vars 0) (motion_vars 21)))
      refl

  pub sum_applied : (a b : Inertia N) (m : Motion N) → applied k (inertia_add k a b) m ≡ force_add k (applied k a m) (applied k b m)
  unfolding force_add applied inertia_add
  sum_applied a b m =
      solve_force k (inertia_list a ++ (inertia_list b ++ motion_list m))
      (applied_by terms (inertia_add_by terms (inertia_vars 0) (inertia_vars 21)) (motion_vars 42))
      (force_add_by terms (applied_by terms (inertia_vars 0) (motion_vars 42)) (applied_by terms (inertia_vars 21) (motion_vars 42)))
      refl

  pub momentum_add : (l : Link N) (m n : Motion N) → momentum k l (motion_add k m n) ≡ force_add k (momentum k l m) (momentum k l n)
  unfolding motion_add force_add momentum
  momentum_add l m n =
      solve_force k (link_list l ++ (motion_list m ++ motion_list n))
      (momentum_by terms (link_vars 0) (motion_add_by terms (motion_vars 10) (motion_vars 16)))
      (force_add_by terms (momentum_by terms (link_vars 0) (motion_vars 10)) (momentum_by terms (link_vars 0) (motion_vars 16)))
      refl

  pub momentum_scale : (l : Link N) (s : N) (m : Motion N) → momentum k l (motion_scale k s m) ≡ force_scale k s (momentum k l m)
  unfolding motion_scale force_scale momentum
  momentum_scale l s m =
      solve_force k (link_list l ++ (motion_list m ++ (s ∷ [])))
      (momentum_by terms (link_vars 0) (motion_scale_by terms (var 16) (motion_vars 10)))
      (force_scale_by terms (var 16) (momentum_by terms (link_vars 0) (motion_vars 10)))
      refl

  pub momentum_symmetric : (l : Link N) (m n : Motion N) → pairing k m (momentum k l n) ≡ pairing k n (momentum k l m)
  unfolding pairing momentum
  momentum_symmetric l m n =
      solve_number k (link_list l ++ (motion_list m ++ motion_list n))
      (pairing_by terms (motion_vars 10) (momentum_by terms (link_vars 0) (motion_vars 16)))
      (pairing_by terms (motion_vars 16) (momentum_by terms (link_vars 0) (motion_vars 10)))
      refl

  -- the two crosses are adjoint, but for the sign
  pub cross_adjoint : (m n : Motion N) (f : Force N) → pairing k (motion_cross k m n) f ≡ k.neg (pairing k n (force_cross k m f))
  unfolding pairing motion_cross force_cross
  cross_adjoint m n f =
      solve_number k (motion_list m ++ (motion_list n ++ force_list f))
      (pairing_by terms (motion_cross_by terms (motion_vars 0) (motion_vars 6)) (force_vars 12))
      (terms.neg (pairing_by terms (motion_vars 6) (force_cross_by terms (motion_vars 0) (force_vars 12))))
      refl

  pub jacobi : (l m n : Motion N) → motion_cross k l (motion_cross k m n) ≡ motion_add k (motion_cross k (motion_cross k l m) n) (motion_cross k m (motion_cross k l n))
  unfolding motion_cross motion_add
  jacobi l m n =
      solve_motion k (motion_list l ++ (motion_list m ++ motion_list n))
      (motion_cross_by terms (motion_vars 0) (motion_cross_by terms (motion_vars 6) (motion_vars 12)))
      (motion_add_by terms (motion_cross_by terms (motion_cross_by terms (motion_vars 0) (motion_vars 6)) (motion_vars 12)) (motion_cross_by terms (motion_vars 6) (motion_cross_by terms (motion_vars 0) (motion_vars 12))))
      refl

  -- K − d U Uᵀ takes m to K m − d (m·U) U
  pub minus_outer_applied :
      (a : Inertia N) (d : N) (u : Force N) (m : Motion N)
      → applied k (inertia_minus_outer k d u a) m ≡ force_add k (applied k a m) (force_scale k (k.mul d (k.neg (pairing k m u))) u)
  unfolding force_add force_scale pairing applied inertia_minus_outer
  minus_outer_applied a d u m =
      solve_force k (inertia_list a ++ (force_list u ++ (motion_list m ++ (d ∷ []))))
      (applied_by terms (minus_outer_by terms (var 33) (force_vars 21) (inertia_vars 0)) (motion_vars 27))
      (force_add_by terms (applied_by terms (inertia_vars 0) (motion_vars 27)) (force_scale_by terms (terms.mul (var 33) (terms.neg (pairing_by terms (motion_vars 27) (force_vars 21)))) (force_vars 21)))
      refl

  -- a placement goes by its place, and then by its rows
  abbrev moved : {M : Type 0} → Ops M → Triple M → Motion M → Motion M
  moved o r m = record { angular = m.angular; linear = sub3 o m.linear (cross3 o r m.angular) }

  abbrev moved_force : {M : Type 0} → Ops M → Triple M → Force M → Force M
  moved_force o r f = record { moment = add3 o f.moment (cross3 o r f.linear); linear = f.linear }

  abbrev spun : {M : Type 0} → Ops M → Matrix3 M → Motion M → Motion M
  spun o e m = record { angular = times o e m.angular; linear = times o e m.linear }

  abbrev spun_force : {M : Type 0} → Ops M → Matrix3 M → Force M → Force M
  spun_force o e f = record { moment = times o e f.moment; linear = times o e f.linear }

  pub turned_applied : (e : Matrix3 N) (a : Inertia N) (m : Motion N) → applied k (turned_inertia k e a) m ≡ spun_force (ops k) (transposed e) (applied k a (spun (ops k) e m))
  unfolding applied turned_inertia
  turned_applied e a m =
      solve_force k (inertia_list a ++ (matrix_list e ++ motion_list m))
      (applied_by terms (turned_by terms (matrix_vars 21) (inertia_vars 0)) (motion_vars 30))
      (spun_force terms (transposed (matrix_vars 21)) (applied_by terms (inertia_vars 0) (spun terms (matrix_vars 21) (motion_vars 30))))
      refl

  pub shifted_applied : (r : Triple N) (a : Inertia N) (m : Motion N) → applied k (shifted_inertia k r a) m ≡ moved_force (ops k) r (applied k a (moved (ops k) r m))
  unfolding applied shifted_inertia
  shifted_applied r a m =
      solve_force k (inertia_list a ++ (triple_list r ++ motion_list m))
      (applied_by terms (shifted_by terms (triple_vars 21) (inertia_vars 0)) (motion_vars 24))
      (moved_force terms (triple_vars 21) (applied_by terms (inertia_vars 0) (moved terms (triple_vars 21) (motion_vars 24))))
      refl

  -- X' K X takes m to X' (K (X m))
  pub carried_applied : (p : Placement N) (a : Inertia N) (m : Motion N) → applied k (carried k p a) m ≡ inward k p (applied k a (outward k p m))
  unfolding outward inward applied
  carried_applied p a m =
      shifted_applied p.offset (turned_inertia k p.rotation a) m
      ∙ ap (moved_force (ops k) p.offset) (turned_applied p.rotation a (moved (ops k) p.offset m))
