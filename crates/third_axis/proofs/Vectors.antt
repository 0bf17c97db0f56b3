-- Motions and forces, turned and slid: the sparse forms are the general ones, in every ring.
use mathlib.Core.Path.{◌≡◌, refl, ap, ◌∙◌}
use mathlib.Core.List.{[], ◌∷◌, ◌++◌}
use Rattle.ring.specs.CommRing.{CommRing}
use Rattle.ring.proofs.Solve.{var, opp}
use Rattle.triple.specs.Ops.{Ops, ops}
use Rattle.triple.specs.declared.triple.Triple.{Triple}
use Rattle.spatial.specs.Placements.{outward, outward_by, inward, inward_by, slid, slid_by}
use Rattle.motion.specs.declared.vectors.Motion.{Motion}
use Rattle.motion.specs.declared.vectors.Force.{Force}
use Rattle.spatial.proofs.Quote.{terms, motion_vars, force_vars, motion_list, force_list, solve_motion, solve_force}
use Rattle.third_axis.specs.Turns.{rotated, rotated_by}
use Rattle.third_axis.specs.Sparse.{turned3, moved3}

module _ {N : Type 0} (o : Ops N) where
  abbrev turned_motion : N → N → Motion N → Motion N
  turned_motion c s m = record { angular = turned3 o c s m.angular; linear = turned3 o c s m.linear }

  abbrev turned_force : N → N → Force N → Force N
  turned_force c s w = record { moment = turned3 o c s w.moment; linear = turned3 o c s w.linear }

  abbrev slid_motion : N → Motion N → Motion N
  slid_motion q m = record { angular = m.angular; linear = moved3 o q m.angular m.linear }

  abbrev slid_force : N → Force N → Force N
  slid_force q w = record { moment = moved3 o q w.linear w.moment; linear = w.linear }

module _ {N : Type 0} (k : CommRing N) where
  turn_outward : (c s : N) (m : Motion N) → turned_motion (ops k) c s m ≡ outward k (rotated k c s) m
  unfolding outward rotated
  turn_outward c s m =
      solve_motion k (motion_list m ++ (c ∷ s ∷ []))
      (turned_motion terms (var 6) (var 7) (motion_vars 0))
      (outward_by terms (rotated_by terms (var 6) (var 7)) (motion_vars 0))
      refl

  pub turned_motion_is :
      (c s : N) (m : Motion N) {a b : Triple N}
      → a ≡ turned3 (ops k) c s m.angular → b ≡ turned3 (ops k) c s m.linear
      → ◌≡◌ {A = Motion N} (record { angular = a; linear = b }) (outward k (rotated k c s) m)
  turned_motion_is c s m p q = (λ i. record { angular = p i; linear = q i }) ∙ turn_outward c s m

  turn_inward : (c s : N) (w : Force N) → turned_force (ops k) c (k.neg s) w ≡ inward k (rotated k c s) w
  unfolding inward rotated
  turn_inward c s w =
      solve_force k (force_list w ++ (c ∷ s ∷ []))
      (turned_force terms (var 6) (opp (var 7)) (force_vars 0))
      (inward_by terms (rotated_by terms (var 6) (var 7)) (force_vars 0))
      refl

  -- by the opposite turn, whose cosine is b and whose sine is t
  pub turned_force_is :
      (c s : N) (w : Force N) {b t : N} {x y : Triple N}
      → b ≡ c → t ≡ k.neg s → x ≡ turned3 (ops k) b t w.moment → y ≡ turned3 (ops k) b t w.linear
      → ◌≡◌ {A = Force N} (record { moment = x; linear = y }) (inward k (rotated k c s) w)
  turned_force_is c s w {b} {t} d e p q =
      let back : (a : Triple N) → turned3 (ops k) b t a ≡ turned3 (ops k) c (k.neg s) a = λ a. λ i. turned3 (ops k) (d i) (e i) a in
      (λ i. record { moment = (p ∙ back w.moment) i; linear = (q ∙ back w.linear) i })
      ∙ turn_inward c s w

  slide_outward : (q : N) (m : Motion N) → slid_motion (ops k) q m ≡ outward k (slid k q) m
  unfolding outward slid
  slide_outward q m =
      solve_motion k (motion_list m ++ (q ∷ []))
      (slid_motion terms (var 6) (motion_vars 0))
      (outward_by terms (slid_by terms (var 6)) (motion_vars 0))
      refl

  pub slid_motion_is :
      (q : N) (m : Motion N) {b : Triple N} → b ≡ moved3 (ops k) q m.angular m.linear
      → ◌≡◌ {A = Motion N} (record { angular = m.angular; linear = b }) (outward k (slid k q) m)
  slid_motion_is q m p = (λ i. record { angular = m.angular; linear = p i }) ∙ slide_outward q m

  slide_inward : (q : N) (w : Force N) → slid_force (ops k) (k.neg q) w ≡ inward k (slid k q) w
  unfolding inward slid
  slide_inward q w =
      solve_force k (force_list w ++ (q ∷ []))
      (slid_force terms (opp (var 6)) (force_vars 0))
      (inward_by terms (slid_by terms (var 6)) (force_vars 0))
      refl

  pub slid_force_is :
      (q : N) (w : Force N) {t : N} {a : Triple N} → t ≡ k.neg q → a ≡ moved3 (ops k) t w.linear w.moment
      → ◌≡◌ {A = Force N} (record { moment = a; linear = w.linear }) (inward k (slid k q) w)
  slid_force_is q w e p =
      (λ i. record { moment = (p ∙ ap (λ t. moved3 (ops k) t w.linear w.moment) e) i; linear = w.linear })
      ∙ slide_inward q w
