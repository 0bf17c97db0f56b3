-- A map of rings that reflects units commutes with the recursions.
use Rattle.std.specs.Prelude.{◌≡◌, ℕ, zero, suc, Bool, true, false, Some, None, Option, ◌==◌}
use Rattle.std.proofs.Math.Path.{refl, ap, ap₂, fun_ext}
use Rattle.std.proofs.Common.{sym, ◌∙◌}
use Rattle.ring.specs.CommRing.{CommRing}
use Rattle.tree_laws.specs.Space.{Module, Pairing, neg_unique, cancel_left, inverse_unique}
use Rattle.tree_laws.specs.Tree.{Tree, put, bump, when, inward, forces, torque, left, handed_op, handed, accel, moved, pivot, bump_op, next_op, next_bias, next_q, next_a, outward, walk, next_k, mass, frame, Outcome, refused, found, grow, aba, Inverts}

pub record Map
    (Car Mot For : Type 0) (R : CommRing Car) (M : Module Car R Mot) (F : Module Car R For) (P : Pairing Car Mot For R M F) (t : Tree Car Mot For R M F P)
    (Car' Mot' For' : Type 0) (R' : CommRing Car') (M' : Module Car' R' Mot') (F' : Module Car' R' For') (P' : Pairing Car' Mot' For' R' M' F') (t' : Tree Car' Mot' For' R' M' F' P')
    : Type 0 where
  pub φ : Car → Car'
  pub μ : Mot → Mot'
  pub ψ : For → For'
  pub φ_add : (x y : Car) → φ (R.add x y) ≡ R'.add (φ x) (φ y)
  pub φ_mul : (x y : Car) → φ (R.mul x y) ≡ R'.mul (φ x) (φ y)
  pub φ_one : φ R.one ≡ R'.one
  pub μ_plus : (x y : Mot) → μ (M.plus x y) ≡ M'.plus (μ x) (μ y)
  pub μ_sc : (r : Car) (x : Mot) → μ (M.sc r x) ≡ M'.sc (φ r) (μ x)
  pub ψ_plus : (x y : For) → ψ (F.plus x y) ≡ F'.plus (ψ x) (ψ y)
  pub ψ_sc : (r : Car) (x : For) → ψ (F.sc r x) ≡ F'.sc (φ r) (ψ x)
  pub φ_pair : (m : Mot) (f : For) → φ (P.pair m f) ≡ P'.pair (μ m) (ψ f)
  pub same_par : (k : ℕ) → t.par k ≡ t'.par k
  pub μ_X : (k : ℕ) (m : Mot) → μ (t.X k m) ≡ t'.X k (μ m)
  pub ψ_X' : (k : ℕ) (f : For) → ψ (t.X' k f) ≡ t'.X' k (ψ f)
  pub μ_S : (k : ℕ) → μ (t.S k) ≡ t'.S k
  pub reflects : (x : Car) (y : Car') → R'.mul (φ x) y ≡ R'.one → (z : Car) × (R.mul x z ≡ R.one)

module _
    {Car Mot For : Type 0} (R : CommRing Car) (M : Module Car R Mot) (F : Module Car R For) (P : Pairing Car Mot For R M F) (t : Tree Car Mot For R M F P)
    {Car' Mot' For' : Type 0} (R' : CommRing Car') (M' : Module Car' R' Mot') (F' : Module Car' R' For') (P' : Pairing Car' Mot' For' R' M' F') (t' : Tree Car' Mot' For' R' M' F' P')
    (h : Map Car Mot For R M F P t Car' Mot' For' R' M' F' P' t') where
  open h use {φ, μ, ψ, φ_add, φ_mul, φ_one, μ_plus, μ_sc, ψ_plus, ψ_sc, φ_pair, same_par, μ_X, ψ_X', μ_S, reflects}

  φ_nil : φ R.zero ≡ R'.zero
  φ_nil = cancel_left R' (φ R.zero) (φ R.zero) R'.zero (sym (φ_add R.zero R.zero) ∙ ap φ (R.add_zero R.zero) ∙ sym (R'.add_zero _))

  φ_neg : (x : Car) → φ (R.neg x) ≡ R'.neg (φ x)
  φ_neg x = neg_unique R' (φ x) (φ (R.neg x)) (sym (φ_add x (R.neg x)) ∙ ap φ (R.add_neg x) ∙ φ_nil)

  ψ_zer : ψ F.zer ≡ F'.zer
  ψ_zer = ap ψ (sym (F.nil_sc F.zer)) ∙ ψ_sc R.zero F.zer ∙ ap (λ r. F'.sc r (ψ F.zer)) φ_nil ∙ F'.nil_sc _

  put_nat : {A B : Type 0} (g : A → B) (f : ℕ → A) (f' : ℕ → B) → ((i : ℕ) → g (f i) ≡ f' i) → (p : ℕ) (x : A) (x' : B) → g x ≡ x' → (i : ℕ) → g (put f p x i) ≡ put f' p x' i
  unfolding put
  put_nat {A} {B} g f f' e p x x' ex i = go (i == p)
    where
      go : (b : Bool) → g (elim b as (λ _. A) [ true ↦ x | false ↦ f i ]) ≡ elim b as (λ _. B) [ true ↦ x' | false ↦ f' i ]
      go true = ex
      go false = e i

  bump_nat :
      (f : ℕ → For) (f' : ℕ → For') → ((i : ℕ) → ψ (f i) ≡ f' i) → (p p' : ℕ) → p ≡ p' → (x : For) (x' : For') → ψ x ≡ x'
      → (i : ℕ) → ψ (bump F f p x i) ≡ bump F' f' p' x' i
  unfolding bump
  bump_nat f f' e p p' ep x x' ex i =
      ψ_plus _ _ ∙ ap₂ F'.plus (e i) (go (i == p) ∙ ap (λ p. when F' (i == p) x') ep)
    where
      go : (b : Bool) → ψ (when F b x) ≡ when F' b x'
      go true = ex
      go false = ψ_zer

  pub inward_nat :
      (n : ℕ) (f : ℕ → For) (f' : ℕ → For') → ((i : ℕ) → ψ (f i) ≡ f' i) → (i : ℕ) → ψ (inward R M F P t n f i) ≡ inward R' M' F' P' t' n f' i
  unfolding inward
  inward_nat zero f f' e i = e i
  inward_nat (suc n) f f' e i =
      inward_nat n _ _ (bump_nat f f' e _ _ (same_par (suc n)) _ _ (ψ_X' (suc n) _ ∙ ap (t'.X' (suc n)) (e (suc n)))) i

  -- related tables
  module _ (A : ℕ → Mot → For) (A' : ℕ → Mot' → For') (e_a : (i : ℕ) (m : Mot) → ψ (A i m) ≡ A' i (μ m)) where
    pub torque_nat :
        (n : ℕ) (β : ℕ → For) (β' : ℕ → For') → ((i : ℕ) → ψ (β i) ≡ β' i) → (a : ℕ → Mot) (a' : ℕ → Mot') → ((i : ℕ) → μ (a i) ≡ a' i)
        → (i : ℕ) → φ (torque R M F P t n A β a i) ≡ torque R' M' F' P' t' n A' β' a' i
    unfolding torque forces
    torque_nat n β β' eβ a a' ea i =
        φ_pair _ _
        ∙ ap₂ P'.pair (μ_S i)
        (inward_nat n _ _ (λ k. ψ_plus _ _ ∙ ap₂ F'.plus (e_a k (a k) ∙ ap (A' k) (ea k)) (eβ k)) i)

    module _ (k : ℕ) (d : Car) (d' : Car') (ed : φ d ≡ d') where
      left_nat : (m : Mot) → ψ (left R M F P t k (A k) d m) ≡ left R' M' F' P' t' k (A' k) d' (μ m)
      unfolding left
      left_nat m = simp (left, ψ_plus, ψ_sc, φ_mul, φ_neg, φ_pair, e_a, μ_S, ed)

      handed_op_nat : (m : Mot) → ψ (handed_op R M F P t k (A k) d m) ≡ handed_op R' M' F' P' t' k (A' k) d' (μ m)
      unfolding handed_op
      handed_op_nat m = simp (handed_op, ψ_X', left_nat, μ_X)

      pivot_nat : φ (pivot R M F P t k (A k)) ≡ pivot R' M' F' P' t' k (A' k)
      pivot_nat = φ_pair _ _ ∙ ap₂ P'.pair (μ_S k) (e_a k _ ∙ ap (A' k) (μ_S k))

      module _ (c : ℕ → Mot) (c' : ℕ → Mot') (ec : (i : ℕ) → μ (c i) ≡ c' i) (b : For) (b' : For') (eb : ψ b ≡ b') (τ : Car) (τ' : Car') (eτ : φ τ ≡ τ') where
        handed_nat : ψ (handed R M F P t c k (A k) d b τ) ≡ handed R' M' F' P' t' c' k (A' k) d' b' τ'
        unfolding handed
        handed_nat = simp (handed, ψ_X', ψ_plus, ψ_sc, left_nat, ec, φ_mul, φ_add, φ_neg, φ_pair, e_a, μ_S, ed, eb, eτ)

        accel_nat : (a : Mot) (a' : Mot') → μ a ≡ a' → φ (accel R M F P t c k (A k) d b τ a) ≡ accel R' M' F' P' t' c' k (A' k) d' b' τ' a'
        unfolding accel
        accel_nat a a' ea = simp (accel, φ_mul, φ_add, φ_neg, φ_pair, μ_plus, μ_X, ea, ec, e_a, μ_S, ed, eb, eτ)

  bump_op_nat :
      (A : ℕ → Mot → For) (A' : ℕ → Mot' → For') → ((i : ℕ) (m : Mot) → ψ (A i m) ≡ A' i (μ m)) → (p p' : ℕ) → p ≡ p'
      → (B : Mot → For) (B' : Mot' → For') → ((m : Mot) → ψ (B m) ≡ B' (μ m))
      → (i : ℕ) (m : Mot) → ψ (bump_op R M F P t A p B i m) ≡ bump_op R' M' F' P' t' A' p' B' i (μ m)
  unfolding bump_op
  bump_op_nat A A' e_a p p' ep B B' e_b i m =
      ψ_plus _ _ ∙ ap₂ F'.plus (e_a i m) (go (i == p) ∙ ap (λ p. when F' (i == p) (B' (μ m))) ep)
    where
      go : (b : Bool) → ψ (when F b (B m)) ≡ when F' b (B' (μ m))
      go true = e_b m
      go false = ψ_zer

  module _ (c : ℕ → Mot) (c' : ℕ → Mot') (ec : (i : ℕ) → μ (c i) ≡ c' i) (a0 : ℕ → Mot) (a0' : ℕ → Mot') (e0 : (i : ℕ) → μ (a0 i) ≡ a0' i) where
    moved_nat :
        (k : ℕ) (m : Mot) (m' : Mot') → μ m ≡ m' → (q : Car) (q' : Car') → φ q ≡ q'
        → μ (moved R M F P t c k m q) ≡ moved R' M' F' P' t' c' k m' q'
    moved_nat k m m' em q q' eq = simp (moved, μ_plus, μ_sc, μ_X, μ_S, ec, em, eq)

    pub outward_nat :
        (q : ℕ → Car) (q' : ℕ → Car') → ((i : ℕ) → φ (q i) ≡ q' i) → (n i : ℕ)
        → μ (outward R M F P t c a0 q n i) ≡ outward R' M' F' P' t' c' a0' q' n i
    unfolding outward
    outward_nat q q' eq zero i = e0 i
    outward_nat q q' eq (suc n) i =
        put_nat μ _ _ (outward_nat q q' eq n) (suc n) _ _
        (moved_nat (suc n) _ _ (outward_nat q q' eq n _ ∙ ap (outward R' M' F' P' t' c' a0' q' n) (same_par (suc n))) _ _ (eq (suc n))) i

    -- related outcomes
    abbrev pub Related : Outcome R M F P t → Outcome R' M' F' P' t' → Type 0
    Related (refused k) (refused k') = k ≡ k'
    Related (refused k) (found q' a') = ⊥
    Related (found q a) (refused k') = ⊥
    Related (found q a) (found q' a') = ((i : ℕ) → φ (q i) ≡ q' i) × ((i : ℕ) → μ (a i) ≡ a' i)

    module _ (n : ℕ) (A : ℕ → Mot → For) (A' : ℕ → Mot' → For') (e_a : (i : ℕ) (m : Mot) → ψ (A i m) ≡ A' i (μ m)) (d : Car) (d' : Car') (ed : φ d ≡ d') where
      next_op_nat : (i : ℕ) (m : Mot) → ψ (next_op R M F P t n A d i m) ≡ next_op R' M' F' P' t' n A' d' i (μ m)
      unfolding next_op
      next_op_nat = bump_op_nat A A' e_a _ _ (same_par (suc n)) _ _ (handed_op_nat A A' e_a (suc n) d d' ed)

      module _ (β : ℕ → For) (β' : ℕ → For') (eβ : (i : ℕ) → ψ (β i) ≡ β' i) (τ : ℕ → Car) (τ' : ℕ → Car') (eτ : (i : ℕ) → φ (τ i) ≡ τ' i) where
        next_bias_nat : (i : ℕ) → ψ (next_bias R M F P t c n A d β τ i) ≡ next_bias R' M' F' P' t' c' n A' d' β' τ' i
        unfolding next_bias
        next_bias_nat = bump_nat β β' eβ _ _ (same_par (suc n)) _ _ (handed_nat A A' e_a (suc n) d d' ed c c' ec _ _ (eβ (suc n)) _ _ (eτ (suc n)))

        grow_nat :
            (o : Outcome R M F P t) (o' : Outcome R' M' F' P' t') → Related o o'
            → Related (grow R M F P t c n A d β τ o) (grow R' M' F' P' t' c' n A' d' β' τ' o')
        unfolding grow next_q next_a
        grow_nat (refused k) (refused k') r = r
        grow_nat (refused k) (found q' a') r = r
        grow_nat (found q a) (refused k') r = r
        grow_nat (found q a) (found q' a') r =
            (put_nat φ q q' r.0 (suc n) _ _ eq, put_nat μ a a' r.1 (suc n) _ _ (moved_nat (suc n) _ _ ea _ _ eq))
          where
            ea : μ (a (t.par (suc n))) ≡ a' (t'.par (suc n))
            ea = r.1 _ ∙ ap a' (same_par (suc n))

            eq : φ (next_q R M F P t c n A d β τ a) ≡ next_q R' M' F' P' t' c' n A' d' β' τ' a'
            eq = accel_nat A A' e_a (suc n) d d' ed c c' ec _ _ (eβ (suc n)) _ _ (eτ (suc n)) _ _ ea

    pub aba_nat :
        (inv : Car → Option Car) → Inverts R M F P t inv → (inv' : Car' → Option Car') → Inverts R' M' F' P' t' inv'
        → (τ : ℕ → Car) (τ' : ℕ → Car') → ((i : ℕ) → φ (τ i) ≡ τ' i)
        → (n : ℕ) (A : ℕ → Mot → For) (A' : ℕ → Mot' → For') → ((i : ℕ) (m : Mot) → ψ (A i m) ≡ A' i (μ m))
        → (β : ℕ → For) (β' : ℕ → For') → ((i : ℕ) → ψ (β i) ≡ β' i)
        → Related (aba R M F P t c a0 inv n A β τ) (aba R' M' F' P' t' c' a0' inv' n A' β' τ')
    unfolding aba
    aba_nat inv v inv' v' τ τ' eτ zero A A' e_a β β' eβ = ((λ i. φ_nil), e0)
    aba_nat inv v inv' v' τ τ' eτ (suc n) A A' e_a β β' eβ =
        go (inv D) refl (inv' D') refl
        (λ d d' ed. aba_nat inv v inv' v' τ τ' eτ n _ _ (next_op_nat n A A' e_a d d' ed) _ _ (next_bias_nat n A A' e_a d d' ed β β' eβ τ τ' eτ))
      where
        D : Car
        D = pivot R M F P t (suc n) (A (suc n))

        D' : Car'
        D' = pivot R' M' F' P' t' (suc n) (A' (suc n))

        e_d : φ D ≡ D'
        e_d = pivot_nat A A' e_a (suc n) R.zero R'.zero φ_nil

        under : (d : Car) → inv D ≡ Some d → R'.mul D' (φ d) ≡ R'.one
        under d e = ap (λ x. R'.mul x (φ d)) (sym e_d) ∙ sym (φ_mul D d) ∙ ap φ (v.sound D d e) ∙ φ_one

        next : Car → Outcome R M F P t
        next d = aba R M F P t c a0 inv n (next_op R M F P t n A d) (next_bias R M F P t c n A d β τ) τ

        next' : Car' → Outcome R' M' F' P' t'
        next' d = aba R' M' F' P' t' c' a0' inv' n (next_op R' M' F' P' t' n A' d) (next_bias R' M' F' P' t' c' n A' d β' τ') τ'

        go :
            (o : Option Car) → inv D ≡ o → (o' : Option Car') → inv' D' ≡ o'
            → ((d : Car) (d' : Car') → φ d ≡ d' → Related (next d) (next' d'))
            → Related
            (elim o [ None ↦ refused (suc n) | Some d ↦ grow R M F P t c n A d β τ (next d) ])
            (elim o' [ None ↦ refused (suc n) | Some d ↦ grow R' M' F' P' t' c' n A' d β' τ' (next' d) ])
        go None e None e' ih = refl
        go None e (Some d') e' ih =
            let z = reflects D d' (ap (λ x. R'.mul x d') e_d ∙ v'.sound D' d' e') in absurd (v.complete D e z.0 z.1)
        go (Some d) e None e' ih = absurd (v'.complete D' e' (φ d) (under d e))
        go (Some d) e (Some d') e' ih =
            let ed : φ d ≡ d' = inverse_unique R' D' (φ d) d' (under d e) (v'.sound D' d' e') in
            grow_nat n A A' e_a d d' ed β β' eβ τ τ' eτ (next d) (next' d') (ih d d' ed)

  walk_nat :
      (n p : ℕ) (G : For) (G' : For') → ψ G ≡ G' → (i : ℕ) → φ (walk R M F P t n p G i) ≡ walk R' M' F' P' t' n p G' i
  unfolding walk
  walk_nat zero p G G' e_g i = φ_nil
  walk_nat (suc n) p G G' e_g i =
      ap (λ (f : ℕ → Car'). f i)
      (put_nat {A = ℕ → Car} {B = ℕ → Car'} (λ f k. φ (f k)) _ _ (λ j. fun_ext (walk_nat n j G G' e_g)) (suc n) _ _
      (fun_ext
      (put_nat φ _ _
      (λ j.
      walk_nat n (t.par (suc n)) _ _ (ψ_X' (suc n) G ∙ ap (t'.X' (suc n)) e_g) j
      ∙ ap (λ p. walk R' M' F' P' t' n p (t'.X' (suc n) G') j) (same_par (suc n)))
      (suc n) _ _ (φ_pair _ _ ∙ ap₂ P'.pair (μ_S (suc n)) e_g))) p)

  pub mass_nat :
      (n : ℕ) (K : ℕ → Mot → For) (K' : ℕ → Mot' → For') → ((i : ℕ) (m : Mot) → ψ (K i m) ≡ K' i (μ m))
      → (i j : ℕ) → φ (mass R M F P t n K i j) ≡ mass R' M' F' P' t' n K' i j
  unfolding mass next_k frame
  mass_nat zero K K' e_k i j = φ_nil
  mass_nat (suc n) K K' e_k i j =
      ap (λ (f : ℕ → Car'). f j)
      (put_nat {A = ℕ → Car} {B = ℕ → Car'} (λ f k. φ (f k)) _ _
      (λ i. fun_ext (put_nat φ _ _ (mass_nat n _ _ (bump_op_nat K K' e_k _ _ (same_par (suc n)) _ _ (λ m. simp (ψ_X', e_k, μ_X))) i) (suc n) _ _ (row i))) (suc n) _ _ (fun_ext row) i)
    where
      row : (i : ℕ) → φ (walk R M F P t (suc n) (suc n) (K (suc n) (t.S (suc n))) i) ≡ walk R' M' F' P' t' (suc n) (suc n) (K' (suc n) (t'.S (suc n))) i
      row = walk_nat (suc n) (suc n) _ _ (e_k (suc n) _ ∙ ap (K' (suc n)) (μ_S (suc n)))
