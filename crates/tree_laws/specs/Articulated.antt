-- Articulated bodies in the subject's words: what each child hands down, and how each joint moves.
use Rattle.std.specs.Prelude.{◌≡◌, ℕ, zero, suc, ◌<◌, ◌≤◌, ◌⊎◌, Some, None, Option, ◌==◌}
use Rattle.std.proofs.Math.Path.{refl, sym, ap, ap₂, subst}
use Rattle.std.proofs.Common.{◌∙◌, inl, inr, arith}
use Rattle.ring.specs.CommRing.{CommRing}
use Rattle.tree_laws.specs.Space.{Module, Pairing}
use Rattle.tree_laws.specs.Tree.{Tree, put, put_at, put_off, bump, when, when_off, bump_op, pivot, left, handed_op, handed, accel, next_op, next_bias, next_q, next_a, Outcome, refused, found, grow, aba, last?}
use Rattle.tree_laws.specs.Children.{children}
use Rattle.tree_laws.specs.Sweep.{Swept, failed, swept, sweep, rise, finish, Kept, kept, next_op_off, next_bias_off, loops_are_aba}

module _ {Car Mot For : Type 0} (R : CommRing Car) (M : Module Car R Mot) (F : Module Car R For) (P : Pairing Car Mot For R M F) (t : Tree Car Mot For R M F P)
    (c a0 : ℕ → Mot) (inv : Car → Option Car) (τ : ℕ → Car) where
  open M use {plus as ◌+ₘ◌, sc as ◌·ₘ◌}
  open F use {plus as ◌⊞◌, sc as ◌·◌, zer, plus_zer, plus_assoc, plus_comm}
  open R use {add as ◌⊕◌, mul as ◌⊗◌, neg}
  open P use {pair}
  open t use {par, lower, X, X', S}

  infixl 60 ◌⊞◌
  infixl 60 ◌⊕◌
  infixl 60 ◌+ₘ◌
  infixl 70 ◌⊗◌
  infixl 70 ◌·◌
  infixl 70 ◌·ₘ◌
  abbrev Op : Type 0
  Op = Mot → For

  abbrev down : ℕ → ℕ → (ℕ → For) → For
  down = children R M F P t

  -- Aₖ − U D⁻¹ Uᵀ, with U = Aₖ S and D⁻¹ = d
  abbrev rest : ℕ → Op → Car → Op
  rest = left R M F P t

  -- bₖ + (Aₖ − U D⁻¹ Uᵀ) cₖ + U D⁻¹ u, with u = τₖ − S·bₖ
  abbrev push : ℕ → Op → Car → For → For
  push k A d b = b ⊞ rest k A d (c k) ⊞ (d ⊗ (τ k ⊕ neg (pair (S k) b))) · A (S k)

  -- the tables of articulated inertias A, biases b and inverse pivots d of links with inertias I and own biases β
  pub record Articulates (n : ℕ) (I : ℕ → Op) (β : ℕ → For) (A : ℕ → Op) (b : ℕ → For) (d : ℕ → Car) : Type 0 where
    -- Aᵢ is Iᵢ plus X'(Aₖ − U D⁻¹ Uᵀ)X for each child k
    pub inertia : (i : ℕ) (m : Mot) → A i m ≡ I i m ⊞ down n i (λ k. rest k (A k) (d k) (X k m))
    -- bᵢ is its own plus X'(bₖ + (Aₖ − U D⁻¹ Uᵀ) cₖ + U D⁻¹ u) for each child k
    pub bias : (i : ℕ) → b i ≡ β i ⊞ down n i (λ k. push k (A k) (d k) (b k))
    -- D = S·U has the inverse d
    pub pivots : (i : ℕ) → i < n → inv (pair (S (suc i)) (A (suc i) (S (suc i)))) ≡ Some (d (suc i))

  -- the joints' accelerations q and the motions a that they make
  pub record Accelerates (n : ℕ) (A : ℕ → Op) (b : ℕ → For) (d : ℕ → Car) (q : ℕ → Car) (a : ℕ → Mot) : Type 0 where
    pub base : a 0 ≡ a0 0
    -- q̈ᵢ = D⁻¹(u − U·w), with w = Xᵢ aₚ + cᵢ
    pub joint :
        (i : ℕ) → i < n
        → q (suc i)
        ≡ d (suc i) ⊗ (τ (suc i) ⊕ neg (pair (S (suc i)) (b (suc i))) ⊕ neg (pair (X (suc i) (a (par (suc i))) +ₘ c (suc i)) (A (suc i) (S (suc i)))))
    -- aᵢ = w + S q̈ᵢ
    pub motion : (i : ℕ) → i < n → a (suc i) ≡ X (suc i) (a (par (suc i))) +ₘ c (suc i) +ₘ q (suc i) ·ₘ S (suc i)

  -- the tables where joint j is refused: as above from joint j on, with a pivot at j that has no inverse
  pub record Halts (n : ℕ) (I : ℕ → Op) (A : ℕ → Op) (d : ℕ → Car) (j : ℕ) : Type 0 where
    pub inertia : (i : ℕ) (m : Mot) → j ≤ i → A i m ≡ I i m ⊞ down n i (λ k. rest k (A k) (d k) (X k m))
    pub pivots : (i : ℕ) → j ≤ i → i < n → inv (pair (S (suc i)) (A (suc i) (S (suc i)))) ≡ Some (d (suc i))
    pub none : inv (pair (S j) (A j (S j))) ≡ None

  -- a joint has no children below it
  childless : (n i : ℕ) (g : ℕ → For) → n ≤ i → down n i g ≡ zer
  unfolding children
  childless zero i g l = refl
  childless (suc n) i g l =
      ap₂ ◌⊞◌ (childless n i g (omega arith)) (when_off F i (par (suc n)) _ (λ e. let b = lower n in omega arith)) ∙ plus_zer zer

  swap : (x y z : For) → x ⊞ y ⊞ z ≡ x ⊞ (z ⊞ y)
  swap x y z = plus_assoc x y z ∙ ap (λ w. x ⊞ w) (plus_comm y z)

  -- what is said of the tables above n: they are as they were
  abbrev Above : ℕ → (ℕ → Op) → (ℕ → Car) → (ℕ → Op) → (ℕ → Car) → Type 0
  Above n I e A d = (i : ℕ) → n < i → (A i ≡ I i) × (d i ≡ e i)

  abbrev Fine : ℕ → (ℕ → Op) → (ℕ → For) → (ℕ → Car) → Swept R M F P t c a0 inv τ → Type 0
  Fine n I β e (failed k) = (A : ℕ → Op) × (d : ℕ → Car) × Halts n I A d k × Above n I e A d
  Fine n I β e (swept A b d) = Articulates n I β A b d

  -- the inward loop's turn at joint n + 1, in the tables that it ends with
  module _ (n : ℕ) (I : ℕ → Op) (x : Car) (A : ℕ → Op) (d : ℕ → Car) (e_a : A (suc n) ≡ I (suc n)) (ed : d (suc n) ≡ x) where
    turn :
        (i : ℕ) (m : Mot) → A i m ≡ next_op R M F P t n I x i m ⊞ down n i (λ k. rest k (A k) (d k) (X k m))
        → A i m ≡ I i m ⊞ down (suc n) i (λ k. rest k (A k) (d k) (X k m))
    unfolding children next_op bump_op handed_op
    turn i m e =
        e
        ∙ swap (I i m) (when F (i == par (suc n)) (X' (suc n) (rest (suc n) (I (suc n)) x (X (suc n) m)))) (down n i (λ k. rest k (A k) (d k) (X k m)))
        ∙ ap (λ y. I i m ⊞ (down n i (λ k. rest k (A k) (d k) (X k m)) ⊞ when F (i == par (suc n)) (X' (suc n) y)))
        (sym (ap₂ (λ B z. rest (suc n) B z (X (suc n) m)) e_a ed))

    turn_pivot :
        inv (pivot R M F P t (suc n) (I (suc n))) ≡ Some x
        → inv (pair (S (suc n)) (A (suc n) (S (suc n)))) ≡ Some (d (suc n))
    turn_pivot e = ap (λ (B : Op). inv (pair (S (suc n)) (B (S (suc n))))) e_a ∙ e ∙ ap Some (sym ed)

  sweep_articulates : (n : ℕ) (I : ℕ → Op) (β : ℕ → For) (d : ℕ → Car) → Fine n I β d (sweep R M F P t c a0 inv τ n I β d)
  unfolding sweep children next_bias bump handed
  sweep_articulates zero I β d =
      record { inertia = λ i m. sym (plus_zer (I i m)); bias = λ i. sym (plus_zer (β i)); pivots = λ i l. absurd (omega arith) }
  sweep_articulates (suc n) I β d =
      go (inv (pivot R M F P t (suc n) (I (suc n)))) refl (λ x. sweep_articulates n _ _ _) (λ x. kept R M F P t c a0 inv τ n _ _ _)
    where
      I⁺ : Car → ℕ → Op
      I⁺ x = next_op R M F P t n I x

      β⁺ : Car → ℕ → For
      β⁺ x = next_bias R M F P t c n I x β τ

      s : Car → Swept R M F P t c a0 inv τ
      s x = sweep R M F P t c a0 inv τ n (I⁺ x) (β⁺ x) (put d (suc n) x)

      same_I : (x : Car) (i : ℕ) → n < i → I⁺ x i ≡ I i
      same_I x i l = next_op_off R M F P t c a0 inv τ n I x i l

      halts :
          (x : Car) → inv (pivot R M F P t (suc n) (I (suc n))) ≡ Some x → (k : ℕ) (A : ℕ → Op) (d' : ℕ → Car)
          → Halts n (I⁺ x) A d' k → Above n (I⁺ x) (put d (suc n) x) A d' → Halts (suc n) I A d' k
      halts x e k A d' f g =
          record {
            inertia = λ i m l. turn n I x A d' e_a ed i m (f.inertia i m l);
            pivots = λ i b l. at i b (last? i n l);
            none = f.none;
          }
        where
          e_a : A (suc n) ≡ I (suc n)
          e_a = (g (suc n) (omega arith)).0 ∙ same_I x (suc n) (omega arith)

          ed : d' (suc n) ≡ x
          ed = (g (suc n) (omega arith)).1 ∙ put_at d (suc n) x

          Pivot : ℕ → Type 0
          Pivot i = inv (pair (S (suc i)) (A (suc i) (S (suc i)))) ≡ Some (d' (suc i))

          at : (i : ℕ) → k ≤ i → (i < n) ⊎ (i ≡ n) → Pivot i
          at i b (inl low) = f.pivots i b low
          at i b (inr q) = subst Pivot (sym q) (turn_pivot n I x A d' e_a ed e)

      lift :
          (x : Car) → inv (pivot R M F P t (suc n) (I (suc n))) ≡ Some x → (o : Swept R M F P t c a0 inv τ)
          → Fine n (I⁺ x) (β⁺ x) (put d (suc n) x) o → Kept R M F P t c a0 inv τ n (I⁺ x) (β⁺ x) (put d (suc n) x) o
          → Fine (suc n) I β d o
      lift x e (failed k) (A, d', f, g) h = (
        A,
        d',
        halts x e k A d' f g,
        λ i l.
            let y = g i (omega arith) in
            (y.0 ∙ same_I x i (omega arith), y.1 ∙ put_off d (suc n) x i (λ z. omega arith)),
      )
      lift x e (swept A b d') f h =
          record {
            inertia = λ i m. turn n I x A d' e_a ed i m (f.inertia i m);
            bias =
                λ i.
                f.bias i
                ∙ swap (β i) (when F (i == par (suc n)) (X' (suc n) (push (suc n) (I (suc n)) x (β (suc n))))) (down n i (λ k. push k (A k) (d' k) (b k)))
                ∙ ap (λ y. β i ⊞ (down n i (λ k. push k (A k) (d' k) (b k)) ⊞ when F (i == par (suc n)) (X' (suc n) y)))
                (sym (ap (λ B. push (suc n) B (d' (suc n)) (b (suc n))) e_a ∙ ap₂ (push (suc n) (I (suc n))) ed eb));
            pivots = λ i l. at i (last? i n l);
          }
        where
          e_a : A (suc n) ≡ I (suc n)
          e_a = (h (suc n) (omega arith)).0 ∙ same_I x (suc n) (omega arith)

          eb : b (suc n) ≡ β (suc n)
          eb = (h (suc n) (omega arith)).1 ∙ next_bias_off R M F P t c a0 inv τ n I x β (suc n) (omega arith)

          ed : d' (suc n) ≡ x
          ed = (h (suc n) (omega arith)).2 ∙ put_at d (suc n) x

          Pivot : ℕ → Type 0
          Pivot i = inv (pair (S (suc i)) (A (suc i) (S (suc i)))) ≡ Some (d' (suc i))

          at : (i : ℕ) → (i < n) ⊎ (i ≡ n) → Pivot i
          at i (inl low) = f.pivots i low
          at i (inr q) = subst Pivot (sym q) (turn_pivot n I x A d' e_a ed e)

      go :
          (o : Option Car) → inv (pivot R M F P t (suc n) (I (suc n))) ≡ o
          → ((x : Car) → Fine n (I⁺ x) (β⁺ x) (put d (suc n) x) (s x))
          → ((x : Car) → Kept R M F P t c a0 inv τ n (I⁺ x) (β⁺ x) (put d (suc n) x) (s x))
          → Fine (suc n) I β d (elim o [ None ↦ failed (suc n) | Some x ↦ s x ])
      go None e f h = (
        I,
        d,
        record {
          inertia = λ i m l. sym (ap (λ y. I i m ⊞ y) (childless (suc n) i _ l) ∙ plus_zer (I i m));
          pivots = λ i b l. absurd (omega arith);
          none = e;
        },
        λ i l. (refl, refl),
      )
      go (Some x) e f h = lift x e (s x) (f x) (h x)

  abbrev Ends : ℕ → (ℕ → Op) → (ℕ → For) → (ℕ → Car) → Outcome R M F P t → Type 0
  Ends n A b d (refused k) = Unit {0}
  Ends n A b d (found q a) = Accelerates n A b d q a

  rise_accelerates : (n : ℕ) (A : ℕ → Op) (b : ℕ → For) (d : ℕ → Car) → Ends n A b d (rise R M F P t c a0 inv τ n A b d)
  unfolding rise grow next_q next_a accel
  rise_accelerates zero A b d = record { base = refl; joint = λ i l. absurd (omega arith); motion = λ i l. absurd (omega arith) }
  rise_accelerates (suc n) A b d = go (rise R M F P t c a0 inv τ n A b d) (rise_accelerates n A b d)
    where
      go : (o : Outcome R M F P t) → Ends n A b d o → Ends (suc n) A b d (grow R M F P t c n A (d (suc n)) b τ o)
      go (refused k) e = tt
      go (found q a) e =
          record {
            base = off 0 (omega arith) ∙ e.base;
            joint = λ i l. joint_at i (last? i n l);
            motion = λ i l. motion_at i (last? i n l);
          }
        where
          x : Car
          x = next_q R M F P t c n A (d (suc n)) b τ a

          q⁺ : ℕ → Car
          q⁺ = put q (suc n) x

          a⁺ : ℕ → Mot
          a⁺ = put a (suc n) (next_a R M F P t c n A (d (suc n)) a x)

          off : (i : ℕ) → i ≤ n → a⁺ i ≡ a i
          off i l = put_off a (suc n) _ i (λ z. omega arith)

          formula : ℕ → Mot → Car
          formula i m = d (suc i) ⊗ (τ (suc i) ⊕ neg (pair (S (suc i)) (b (suc i))) ⊕ neg (pair (X (suc i) m +ₘ c (suc i)) (A (suc i) (S (suc i)))))

          Joint : ℕ → Type 0
          Joint i = q⁺ (suc i) ≡ formula i (a⁺ (par (suc i)))

          joint_at : (i : ℕ) → (i < n) ⊎ (i ≡ n) → Joint i
          joint_at i (inl low) =
              put_off q (suc n) x (suc i) (λ z. omega arith)
              ∙ e.joint i low
              ∙ ap (formula i) (sym (off (par (suc i)) (let l = lower i in omega arith)))
          joint_at i (inr z) =
              subst Joint (sym z) (put_at q (suc n) x ∙ ap (formula n) (sym (off (par (suc n)) (lower n))))

          Motion : ℕ → Type 0
          Motion i = a⁺ (suc i) ≡ X (suc i) (a⁺ (par (suc i))) +ₘ c (suc i) +ₘ q⁺ (suc i) ·ₘ S (suc i)

          motion_at : (i : ℕ) → (i < n) ⊎ (i ≡ n) → Motion i
          motion_at i (inl low) =
              put_off a (suc n) _ (suc i) (λ z. omega arith)
              ∙ e.motion i low
              ∙ ap₂ (λ m r. X (suc i) m +ₘ c (suc i) +ₘ r ·ₘ S (suc i))
              (sym (off (par (suc i)) (let l = lower i in omega arith)))
              (sym (put_off q (suc n) x (suc i) (λ z. omega arith)))
          motion_at i (inr z) =
              subst Motion (sym z)
              (put_at a (suc n) _
              ∙ ap₂ (λ m r. X (suc n) m +ₘ c (suc n) +ₘ r ·ₘ S (suc n)) (sym (off (par (suc n)) (lower n))) (sym (put_at q (suc n) x)))

  -- the outward loop refuses nothing
  abbrev Rises : Outcome R M F P t → Type 0
  Rises (refused k) = ⊥
  Rises (found q a) = Unit {0}

  rises : (n : ℕ) (A : ℕ → Op) (b : ℕ → For) (d : ℕ → Car) → Rises (rise R M F P t c a0 inv τ n A b d)
  unfolding rise grow
  rises zero A b d = tt
  rises (suc n) A b d = go (rise R M F P t c a0 inv τ n A b d) (rises n A b d)
    where
      go : (o : Outcome R M F P t) → Rises o → Rises (grow R M F P t c n A (d (suc n)) b τ o)
      go (refused k) e = e
      go (found q a) e = tt

  -- accelerations that are found are those of the articulated bodies, and the refused joint is the highest without a unit pivot
  abbrev pub Explained : ℕ → (ℕ → Op) → (ℕ → For) → Outcome R M F P t → Type 0
  Explained n I β (refused k) = (A : ℕ → Op) × (d : ℕ → Car) × Halts n I A d k
  Explained n I β (found q a) =
      (A : ℕ → Op) × (b : ℕ → For) × (d : ℕ → Car) × Articulates n I β A b d × Accelerates n A b d q a

  pub aba_explained : (n : ℕ) (I : ℕ → Op) (β : ℕ → For) → Explained n I β (aba R M F P t c a0 inv n I β τ)
  unfolding finish
  aba_explained n I β =
      subst (Explained n I β) (loops_are_aba R M F P t c a0 inv τ n I β (λ _. R.zero))
      (go (sweep R M F P t c a0 inv τ n I β (λ _. R.zero)) (sweep_articulates n I β (λ _. R.zero)))
    where
      go : (o : Swept R M F P t c a0 inv τ) → Fine n I β (λ _. R.zero) o → Explained n I β (finish R M F P t c a0 inv τ n o)
      go (failed k) (A, d, f, g) = (A, d, f)
      go (swept A b d) f = by (rise R M F P t c a0 inv τ n A b d) (rise_accelerates n A b d) (rises n A b d)
        where
          by : (o : Outcome R M F P t) → Ends n A b d o → Rises o → Explained n I β o
          by (refused k) e r = absurd r
          by (found q a) e r = (A, b, d, f, e)
