-- There is one table of articulated bodies.
use Rattle.std.proofs.Common.{◌≡◌, ℕ, zero, suc, ◌+◌, ◌<◌, ◌≤◌, Some, None, Option, sym, ap, ◌∙◌, subst, ap₂, arith}
use Rattle.ring.specs.CommRing.{CommRing}
use Rattle.motion.specs.Vectors.{motion_add, motion_scale, force_add, force_scale, pairing}
use Rattle.motion.specs.declared.vectors.Motion.{Motion}
use Rattle.motion.specs.declared.vectors.Force.{Force}
use Rattle.joint.specs.Joints.{joint_outward}
use Rattle.tree_laws.specs.Words.{children_above}
use Rattle.dynamics.specs.Held.{Held, par}
use Rattle.dynamics.specs.Modules.{motions, forces, power, tree}
use Rattle.dynamics.specs.Recursions.{S, own_inertia, drift, bias}
use Rattle.dynamics.specs.Tables.{from_children, U, D, u, apart, pushed, ArticulatedBodies, RefusedBody}

some_same : {V : Type 0} {x y : V} → Some x ≡ Some y → x ≡ y
some_same {V} {x} {y} e = ap (λ (o : Option V). elim o [ None ↦ x | Some z ↦ z ]) e

abbrev Empty : {V : Type 0} → Option V → Type 0
Empty None = Unit {0}
Empty (Some _) = ⊥

pub none_some : {V : Type 0} {x : V} → None ≡ Some x → ⊥
none_some {V} {x} e = subst (λ (o : Option V). Empty o) e tt

module _ {N : Type 0} (k : CommRing N) (h : Held N) where
  abbrev Ops : Type 0
  Ops = ℕ → Motion N → Force N

  -- the tables of inertias and inverse pivots from joint j upward, that of j left open
  pub record Bodies (A : Ops) (d : ℕ → N) (j : ℕ) : Type 0 where
    pub inertia :
        (i : ℕ) → j ≤ i → i ≤ h.n → (m : Motion N)
        → A i m ≡ force_add k (own_inertia k h i m) (from_children k h i (λ l. apart k h A d l (joint_outward k (h.joints l) m)))
    pub pivot : (i : ℕ) → j < i → i ≤ h.n → k.inverse (D k h A i) ≡ Some (d i)

  pub of_refused : (A : Ops) (d : ℕ → N) (j : ℕ) → RefusedBody k h A d j → Bodies A d j
  of_refused A d j r = record { inertia = r.inertia; pivot = r.pivot }

  pub of_found :
      (A : Ops) (b : ℕ → Force N) (d q : ℕ → N) (a : ℕ → Motion N) (j : ℕ) → 0 < j → ArticulatedBodies k h A b d q a → Bodies A d j
  of_found A b d q a j pos t = record { inertia = inertia; pivot = pivot }
    where
      inertia :
          (i : ℕ) → j ≤ i → i ≤ h.n → (m : Motion N)
          → A i m ≡ force_add k (own_inertia k h i m) (from_children k h i (λ l. apart k h A d l (joint_outward k (h.joints l) m)))
      inertia zero x l m = absurd (omega arith)
      inertia (suc i) x l m = t.inertia i l m

      pivot : (i : ℕ) → j < i → i ≤ h.n → k.inverse (D k h A i) ≡ Some (d i)
      pivot zero x l = absurd (omega arith)
      pivot (suc i) x l = t.pivot i l

  pub upward : (A : Ops) (d : ℕ → N) (j l : ℕ) → j ≤ l → Bodies A d j → Bodies A d l
  upward A d j l le t =
      record { inertia = λ i x y m. t.inertia i (omega arith) y m; pivot = λ i x y. t.pivot i (omega arith) y }

  module _ (A B : Ops) (d e : ℕ → N) (j : ℕ) (s : Bodies A d j) (t : Bodies B e j) where
    pub inverse_once : (i : ℕ) → j < i → i ≤ h.n → ((m : Motion N) → A i m ≡ B i m) → d i ≡ e i
    inverse_once i x l same =
        some_same (sym (s.pivot i x l) ∙ ap (λ F. k.inverse (pairing k (S k h i) F)) (same (S k h i)) ∙ t.pivot i x l)

    pub apart_once : (i : ℕ) → ((m : Motion N) → A i m ≡ B i m) → d i ≡ e i → (m : Motion N) → apart k h A d i m ≡ apart k h B e i m
    apart_once i same eq m =
        ap₂ (λ F G. force_add k F (force_scale k (k.mul (d i) (k.neg (pairing k m G))) G)) (same m) (same (S k h i))
        ∙ ap (λ x. force_add k (B i m) (force_scale k (k.mul x (k.neg (pairing k m (U k h B i)))) (U k h B i))) eq

    pub inertia_once : (i : ℕ) → j ≤ i → i ≤ h.n → (m : Motion N) → A i m ≡ B i m
    inertia_once i x l m = down h.n i (omega arith) x l m
      where
        same_children :
            (i : ℕ) (m : Motion N) → ((l : ℕ) → i < l → l ≤ h.n → (m : Motion N) → A l m ≡ B l m) → j ≤ i
            → from_children k h i (λ l. apart k h A d l (joint_outward k (h.joints l) m))
            ≡ from_children k h i (λ l. apart k h B e l (joint_outward k (h.joints l) m))
        same_children i m up x =
            children_above k (motions k) (forces k) (power k) (tree k h) h.n i _ _
            (λ l a c. apart_once l (up l a c) (inverse_once l (omega arith) c (up l a c)) (joint_outward k (h.joints l) m))

        down : (f i : ℕ) → h.n ≤ i + f → j ≤ i → i ≤ h.n → (m : Motion N) → A i m ≡ B i m
        down zero i far x l m =
            s.inertia i x l m
            ∙ ap (force_add k (own_inertia k h i m)) (same_children i m (λ l a c. absurd (omega arith)) x)
            ∙ sym (t.inertia i x l m)
        down (suc f) i far x l m =
            s.inertia i x l m
            ∙ ap (force_add k (own_inertia k h i m)) (same_children i m (λ l a c. down f l (omega arith) (omega arith) c) x)
            ∙ sym (t.inertia i x l m)

  -- two whole tables
  module _
      (A B : Ops) (b c : ℕ → Force N) (d e q p : ℕ → N) (a w : ℕ → Motion N)
      (s : ArticulatedBodies k h A b d q a) (t : ArticulatedBodies k h B c e p w) where
    A_same : (i : ℕ) → 0 < i → i ≤ h.n → (m : Motion N) → A i m ≡ B i m
    A_same i pos l m =
        inertia_once A B d e 1 (of_found A b d q a 1 (omega arith) s) (of_found B c e p w 1 (omega arith) t) i pos l m

    U_same : (i : ℕ) → 0 < i → i ≤ h.n → U k h A i ≡ U k h B i
    U_same i pos l = A_same i pos l (S k h i)

    d_same : (i : ℕ) → 0 < i → i ≤ h.n → d i ≡ e i
    d_same zero pos l = absurd (omega arith)
    d_same (suc i) pos l =
        some_same (sym (s.pivot i l) ∙ ap (λ F. k.inverse (pairing k (S k h (suc i)) F)) (U_same (suc i) pos l) ∙ t.pivot i l)

    pushed_same : (i : ℕ) → 0 < i → i ≤ h.n → b i ≡ c i → pushed k h A b d i ≡ pushed k h B c e i
    pushed_same i pos l eq =
        ap₂ (λ F G. force_add k (force_add k F G) (force_scale k (k.mul (d i) (u k h (λ _. F) i)) (U k h A i))) eq
        (apart_once A B d e 1 (of_found A b d q a 1 (omega arith) s) (of_found B c e p w 1 (omega arith) t) i (A_same i pos l) (d_same i pos l) (drift k h i))
        ∙ ap₂ (λ x F. force_add k (force_add k (c i) (apart k h B e i (drift k h i))) (force_scale k (k.mul x (u k h c i)) F))
        (d_same i pos l) (U_same i pos l)

    b_same : (i : ℕ) → 0 < i → i ≤ h.n → b i ≡ c i
    b_same i pos l = down h.n i (omega arith) pos l
      where
        down : (f i : ℕ) → h.n < i + f → 0 < i → i ≤ h.n → b i ≡ c i
        down zero i far pos l = absurd (omega arith)
        down (suc f) zero far pos l = absurd (omega arith)
        down (suc f) (suc i) far pos l =
            s.bias_force i l
            ∙ ap (force_add k (bias k h (suc i)))
            (children_above k (motions k) (forces k) (power k) (tree k h) h.n (suc i) _ _
            (λ j x y. pushed_same j (omega arith) y (down f j (omega arith) (omega arith) y)))
            ∙ sym (t.bias_force i l)

    -- q̈ᵢ by what the parent has
    abbrev formula : Ops → (ℕ → Force N) → (ℕ → N) → ℕ → Motion N → N
    formula A b d i m =
        k.mul (d i)
        (k.add (u k h b i) (k.neg (pairing k (motion_add k (joint_outward k (h.joints i) m) (drift k h i)) (U k h A i))))

    formula_same : (i : ℕ) → 0 < i → i ≤ h.n → (m : Motion N) → formula A b d i m ≡ formula B c e i m
    formula_same i pos l m =
        ap₂ (λ x F.
        k.mul x (k.add (u k h (λ _. F) i) (k.neg (pairing k (motion_add k (joint_outward k (h.joints i) m) (drift k h i)) (U k h A i)))))
        (d_same i pos l) (b_same i pos l)
        ∙ ap (λ F. k.mul (e i) (k.add (u k h c i) (k.neg (pairing k (motion_add k (joint_outward k (h.joints i) m) (drift k h i)) F))))
        (U_same i pos l)

    q_same : (i : ℕ) → i < h.n → a (par h (suc i)) ≡ w (par h (suc i)) → q (suc i) ≡ p (suc i)
    q_same i l eq =
        s.joint i l ∙ ap (formula A b d (suc i)) eq ∙ formula_same (suc i) (omega arith) l (w (par h (suc i))) ∙ sym (t.joint i l)

    a_same : (i : ℕ) → i ≤ h.n → a i ≡ w i
    a_same i l = up i i (omega arith) l
      where
        up : (f i : ℕ) → i ≤ f → i ≤ h.n → a i ≡ w i
        up f zero m l = s.acceleration_base ∙ sym t.acceleration_base
        up zero (suc i) m l = absurd (omega arith)
        up (suc f) (suc i) m l =
            let eq = up f (par h (suc i)) (omega arith) (omega arith) in
            s.acceleration i l
            ∙ ap₂ (λ x y. motion_add k (motion_add k (joint_outward k (h.joints (suc i)) x) (drift k h (suc i))) (motion_scale k y (S k h (suc i))))
            eq (q_same i l eq)
            ∙ sym (t.acceleration i l)

    pub accelerations_once : (i : ℕ) → i < h.n → q (suc i) ≡ p (suc i)
    accelerations_once i l = q_same i l (a_same (par h (suc i)) (omega arith))

  -- a joint cannot be refused where all pivots are units
  pub not_both :
      (A B : Ops) (b : ℕ → Force N) (d e q : ℕ → N) (a : ℕ → Motion N) (j : ℕ)
      → ArticulatedBodies k h A b d q a → RefusedBody k h B e j → ⊥
  not_both A B b d e q a zero s t = absurd (let l = t.low in omega arith)
  not_both A B b d e q a (suc j) s t =
      none_some
      (sym t.no_unit
      ∙ ap (λ F. k.inverse (pairing k (S k h (suc j)) F))
      (sym (inertia_once A B d e (suc j) (of_found A b d q a (suc j) (omega arith) s) (of_refused B e (suc j) t) (suc j) (omega arith) t.high (S k h (suc j))))
      ∙ s.pivot j t.high)

  -- nor two joints
  pub not_lower : (A B : Ops) (d e : ℕ → N) (i j : ℕ) → i < j → RefusedBody k h A d i → RefusedBody k h B e j → ⊥
  not_lower A B d e i j l s t =
      none_some
      (sym t.no_unit
      ∙ ap (λ F. k.inverse (pairing k (S k h j) F))
      (sym (inertia_once A B d e j (upward A d i j (omega arith) (of_refused A d i s)) (of_refused B e j t) j (omega arith) t.high (S k h j)))
      ∙ s.pivot j l t.high)
