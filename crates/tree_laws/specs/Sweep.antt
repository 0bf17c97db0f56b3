-- The accelerations by two loops: an inward one that fills tables, and an outward one that reads them.
use Rattle.std.specs.Prelude.{◌≡◌, ℕ, zero, suc, ◌<◌, Some, None, Option}
use Rattle.std.proofs.Math.Path.{refl, ap, fun_ext}
use Rattle.std.proofs.Common.{◌∙◌, arith}
use Rattle.ring.specs.CommRing.{CommRing}
use Rattle.tree_laws.specs.Space.{Module, Pairing}
use Rattle.tree_laws.specs.Tree.{Tree, put, put_at, put_off, bump_off, when_off, bump_op, pivot, next_op, next_bias, next_q, next_a, Outcome, refused, found, grow, aba}

module _ {Car Mot For : Type 0} (R : CommRing Car) (M : Module Car R Mot) (F : Module Car R For) (P : Pairing Car Mot For R M F) (t : Tree Car Mot For R M F P)
    (c a0 : ℕ → Mot) (inv : Car → Option Car) (τ : ℕ → Car) where
  abbrev Op : Type 0
  Op = Mot → For

  pub data Swept : Type 0 where
    failed : ℕ → Swept
    swept : (ℕ → Op) → (ℕ → For) → (ℕ → Car) → Swept

  -- the inward loop, over the tables of inertias, biases and inverses
  unfoldable pub sweep : ℕ → (ℕ → Op) → (ℕ → For) → (ℕ → Car) → Swept
  sweep zero A β d = swept A β d
  sweep (suc n) A β d =
      elim (inv (pivot R M F P t (suc n) (A (suc n)))) [
        | None ↦ failed (suc n)
        | Some x ↦ sweep n (next_op R M F P t n A x) (next_bias R M F P t c n A x β τ) (put d (suc n) x)
      ]

  -- the outward loop
  unfoldable pub rise : ℕ → (ℕ → Op) → (ℕ → For) → (ℕ → Car) → Outcome R M F P t
  rise zero A β d = found (λ _. R.zero) a0
  rise (suc n) A β d = grow R M F P t c n A (d (suc n)) β τ (rise n A β d)

  unfoldable pub finish : ℕ → Swept → Outcome R M F P t
  finish n (failed k) = refused k
  finish n (swept A β d) = rise n A β d

  -- the loop leaves the entries above n
  abbrev pub Kept : ℕ → (ℕ → Op) → (ℕ → For) → (ℕ → Car) → Swept → Type 0
  Kept n A β d (failed k) = Unit {0}
  Kept n A β d (swept A' β' d') = (i : ℕ) → n < i → (A' i ≡ A i) × (β' i ≡ β i) × (d' i ≡ d i)

  pub next_op_off : (n : ℕ) (A : ℕ → Op) (x : Car) (i : ℕ) → n < i → next_op R M F P t n A x i ≡ A i
  unfolding next_op bump_op
  next_op_off n A x i l =
      fun_ext λ m. ap (F.plus (A i m)) (when_off F i (t.par (suc n)) _ (λ e. let b = t.lower n in omega arith)) ∙ F.plus_zer _

  pub next_bias_off : (n : ℕ) (A : ℕ → Op) (x : Car) (β : ℕ → For) (i : ℕ) → n < i → next_bias R M F P t c n A x β τ i ≡ β i
  unfolding next_bias
  next_bias_off n A x β i l = bump_off F β i (t.par (suc n)) _ (λ e. let b = t.lower n in omega arith)

  pub kept : (n : ℕ) (A : ℕ → Op) (β : ℕ → For) (d : ℕ → Car) → Kept n A β d (sweep n A β d)
  unfolding sweep
  kept zero A β d = λ i l. (refl, refl, refl)
  kept (suc n) A β d = go (inv (pivot R M F P t (suc n) (A (suc n)))) (λ x. kept n _ _ _)
    where
      s : Car → Swept
      s x = sweep n (next_op R M F P t n A x) (next_bias R M F P t c n A x β τ) (put d (suc n) x)

      down : (x : Car) (o : Swept) → Kept n (next_op R M F P t n A x) (next_bias R M F P t c n A x β τ) (put d (suc n) x) o → Kept (suc n) A β d o
      down x (failed k) h = tt
      down x (swept A' β' d') h =
          λ i l.
          let g = h i (omega arith) in (
            g.0 ∙ next_op_off n A x i (omega arith),
            g.1 ∙ next_bias_off n A x β i (omega arith),
            g.2 ∙ put_off d (suc n) x i (λ e. omega arith),
          )

      go :
          (o : Option Car)
          → ((x : Car) → Kept n (next_op R M F P t n A x) (next_bias R M F P t c n A x β τ) (put d (suc n) x) (s x))
          → Kept (suc n) A β d (elim o [ None ↦ failed (suc n) | Some x ↦ s x ])
      go None h = tt
      go (Some x) h = down x (s x) (h x)

  -- a turn of the outward loop reads only the entries of its own joint
  grow_same :
      (n : ℕ) (A A' : ℕ → Op) (β β' : ℕ → For) (x x' : Car) → A' (suc n) ≡ A (suc n) → β' (suc n) ≡ β (suc n) → x' ≡ x
      → (o : Outcome R M F P t) → grow R M F P t c n A' x' β' τ o ≡ grow R M F P t c n A x β τ o
  unfolding grow next_q next_a
  grow_same n A A' β β' x x' e_a eβ ex (refused k) = refl
  grow_same n A A' β β' x x' e_a eβ ex (found q a) = simp (next_q, e_a, eβ, ex)

  pub loops_are_aba : (n : ℕ) (A : ℕ → Op) (β : ℕ → For) (d : ℕ → Car) → finish n (sweep n A β d) ≡ aba R M F P t c a0 inv n A β τ
  unfolding sweep finish rise aba
  loops_are_aba zero A β d = refl
  loops_are_aba (suc n) A β d =
      go (inv (pivot R M F P t (suc n) (A (suc n)))) (λ x. loops_are_aba n _ _ _)
    where
      A⁺ : Car → ℕ → Op
      A⁺ x = next_op R M F P t n A x

      β⁺ : Car → ℕ → For
      β⁺ x = next_bias R M F P t c n A x β τ

      s : Car → Swept
      s x = sweep n (A⁺ x) (β⁺ x) (put d (suc n) x)

      rest : Car → Outcome R M F P t
      rest x = aba R M F P t c a0 inv n (A⁺ x) (β⁺ x) τ

      top :
          (x : Car) (o : Swept) → Kept n (A⁺ x) (β⁺ x) (put d (suc n) x) o → finish n o ≡ rest x
          → finish (suc n) o ≡ grow R M F P t c n A x β τ (rest x)
      top x (failed k) h e = unfold grow in ap (grow R M F P t c n A x β τ) e
      top x (swept A' β' d') h e =
          let g = h (suc n) (omega arith) in
          grow_same n A A' β β' x (d' (suc n))
          (g.0 ∙ next_op_off n A x (suc n) (omega arith)) (g.1 ∙ next_bias_off n A x β (suc n) (omega arith)) (g.2 ∙ put_at d (suc n) x) _
          ∙ ap (grow R M F P t c n A x β τ) e

      go :
          (o : Option Car) → ((x : Car) → finish n (s x) ≡ rest x)
          → finish (suc n) (elim o [ None ↦ failed (suc n) | Some x ↦ s x ])
          ≡ elim o [ None ↦ refused (suc n) | Some x ↦ grow R M F P t c n A x β τ (rest x) ]
      go None h = refl
      go (Some x) h = top x (s x) (kept n (A⁺ x) (β⁺ x) (put d (suc n) x)) (h x)
