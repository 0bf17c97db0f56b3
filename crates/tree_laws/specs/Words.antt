-- The loops in the subject's words: for each child, and step by step to the parent.
use Rattle.std.specs.Prelude.{◌≡◌, ℕ, zero, suc, ◌+◌, ◌<◌, ◌≤◌, Bool, true, false, ◌⊎◌, ◌==◌}
use Rattle.std.proofs.Math.Path.{refl, sym, ap, ap₂}
use Rattle.std.proofs.Common.{◌∙◌, subst, arith, inl, inr}
use Rattle.ring.specs.CommRing.{CommRing}
use Rattle.tree_laws.specs.Space.{Module, Pairing}
use Rattle.tree_laws.specs.Tree.{Tree, Same, same, apart, same?, last?, when, when_off, inward, bump_op, walk, walk_here, walk_else, walk_skip, next_k, mass, mass_low, mass_first}
use Rattle.tree_laws.specs.Children.{children, by_children}

module _ {Car Mot For : Type 0} (R : CommRing Car) (M : Module Car R Mot) (F : Module Car R For) (P : Pairing Car Mot For R M F) (t : Tree Car Mot For R M F P) where
  open F use {plus as ◌⊞◌, zer, plus_zer, plus_assoc, plus_comm}
  open t use {par, lower, X, X', S}

  infixl 60 ◌⊞◌
  -- what the children of i carry to it depends on the joints above i alone
  pub children_above :
      (n i : ℕ) (f g : ℕ → For) → ((j : ℕ) → i < j → j ≤ n → f j ≡ g j) → children R M F P t n i f ≡ children R M F P t n i g
  unfolding children
  children_above zero i f g h = refl
  children_above (suc n) i f g h =
      ap₂ ◌⊞◌ (children_above n i f g (λ j a b. h j a (omega arith))) (go (i == par (suc n)) (same? i (par (suc n))))
    where
      go : (b : Bool) → Same i (par (suc n)) b → when F b (X' (suc n) (f (suc n))) ≡ when F b (X' (suc n) (g (suc n)))
      go true (same e) = ap (X' (suc n)) (h (suc n) (let l = lower n in omega arith) (omega arith))
      go false (apart _) = refl

  -- f gives each joint what is its own and what its children carry to it
  abbrev pub Balances : ℕ → (ℕ → For) → (ℕ → For) → Type 0
  Balances n own f = (i : ℕ) → i < n → f (suc i) ≡ own (suc i) ⊞ children R M F P t n (suc i) f

  pub inward_balances : (n : ℕ) (own : ℕ → For) → Balances n own (inward R M F P t n own)
  inward_balances n own i l = by_children R M F P t n own (suc i)

  -- no two tables do
  pub balances_once : (n : ℕ) (own f g : ℕ → For) → Balances n own f → Balances n own g → (i : ℕ) → i < n → f (suc i) ≡ g (suc i)
  balances_once n own f g b c i l = down n (suc i) (omega arith) (omega arith) l
    where
      down : (d j : ℕ) → n < j + d → 0 < j → j ≤ n → f j ≡ g j
      down zero j far pos l = absurd (omega arith)
      down (suc d) zero far pos l = absurd (omega arith)
      down (suc d) (suc i) far pos l =
          b i l
          ∙ ap (λ x. own (suc i) ⊞ x) (children_above n (suc i) f g (λ j x y. down d j (omega arith) (omega arith) y))
          ∙ sym (c i l)

  abbrev Op : Type 0
  Op = Mot → For

  -- the composite inertias, by the inward loop
  unfoldable pub composite : ℕ → (ℕ → Op) → ℕ → Op
  composite zero K = K
  composite (suc n) K = composite n (next_k R M F P t n K)

  next_k_off : (n : ℕ) (K : ℕ → Op) (i : ℕ) (m : Mot) → n < i → next_k R M F P t n K i m ≡ K i m
  unfolding next_k bump_op
  next_k_off n K i m l =
      ap (λ x. K i m ⊞ x) (when_off F i (par (suc n)) _ (λ e. let b = lower n in omega arith)) ∙ plus_zer (K i m)

  pub composite_off : (n : ℕ) (K : ℕ → Op) (i : ℕ) (m : Mot) → n ≤ i → composite n K i m ≡ K i m
  unfolding composite
  composite_off zero K i m l = refl
  composite_off (suc n) K i m l = composite_off n (next_k R M F P t n K) i m (omega arith) ∙ next_k_off n K i m (omega arith)

  -- Kᵢ is Iᵢ plus Xₖ' Kₖ Xₖ for each child k
  pub composite_children :
      (n : ℕ) (K : ℕ → Op) (i : ℕ) (m : Mot)
      → composite n K i m ≡ K i m ⊞ children R M F P t n i (λ j. composite n K j (X j m))
  unfolding composite children next_k bump_op
  composite_children zero K i m = sym (plus_zer (K i m))
  composite_children (suc n) K i m =
      composite_children n (next_k R M F P t n K) i m
      ∙ swap (K i m) (when F (i == par (suc n)) (X' (suc n) (K (suc n) (X (suc n) m)))) rest
      ∙ ap (λ x. K i m ⊞ (rest ⊞ when F (i == par (suc n)) (X' (suc n) x))) (sym (composite_off (suc n) K (suc n) (X (suc n) m) (omega arith)))
    where
      rest : For
      rest = children R M F P t n i (λ j. composite (suc n) K j (X j m))

      swap : (x y z : For) → x ⊞ y ⊞ z ≡ x ⊞ (z ⊞ y)
      swap x y z = plus_assoc x y z ∙ ap (λ w. x ⊞ w) (plus_comm y z)

  -- and no other table of inertias is so
  pub composite_once :
      (n : ℕ) (own K L : ℕ → Op)
      → ((i : ℕ) → i < n → (m : Mot) → K (suc i) m ≡ own (suc i) m ⊞ children R M F P t n (suc i) (λ j. K j (X j m)))
      → ((i : ℕ) → i < n → (m : Mot) → L (suc i) m ≡ own (suc i) m ⊞ children R M F P t n (suc i) (λ j. L j (X j m)))
      → (i : ℕ) → i < n → (m : Mot) → K (suc i) m ≡ L (suc i) m
  composite_once n own K L b c i l m = down n (suc i) (omega arith) (omega arith) l m
    where
      down : (d j : ℕ) → n < j + d → 0 < j → j ≤ n → (m : Mot) → K j m ≡ L j m
      down zero j far pos l m = absurd (omega arith)
      down (suc d) zero far pos l m = absurd (omega arith)
      down (suc d) (suc i) far pos l m =
          b i l m
          ∙ ap (λ x. own (suc i) m ⊞ x)
          (children_above n (suc i) (λ j. K j (X j m)) (λ j. L j (X j m)) (λ j x y. down d j (omega arith) (omega arith) y (X j m)))
          ∙ sym (c i l m)

  -- entry (i, j) of the matrix, for j not above i: Kᵢ S taken step by step to the parent, and paired with S of j
  pub mass_climbs :
      (n : ℕ) (K : ℕ → Op) (i j : ℕ) → i < n → j ≤ i
      → mass R M F P t n K (suc i) (suc j) ≡ walk R M F P t (suc i) (suc i) (composite n K (suc i) (S (suc i))) (suc j)
  unfolding composite
  mass_climbs zero K i j l h = absurd (omega arith)
  mass_climbs (suc n) K i j l h = go (last? i n l) (mass_climbs n (next_k R M F P t n K) i j)
    where
      At : ℕ → Type 0
      At i = mass R M F P t (suc n) K (suc i) (suc j) ≡ walk R M F P t (suc i) (suc i) (composite (suc n) K (suc i) (S (suc i))) (suc j)

      top : At n
      top =
          mass_first R M F P t n K (suc j)
          ∙ ap (λ G. walk R M F P t (suc n) (suc n) G (suc j)) (sym (composite_off (suc n) K (suc n) (S (suc n)) (omega arith)))

      go :
          (i < n) ⊎ (i ≡ n)
          → (i < n → j ≤ i
          → mass R M F P t n (next_k R M F P t n K) (suc i) (suc j)
          ≡ walk R M F P t (suc i) (suc i) (composite n (next_k R M F P t n K) (suc i) (S (suc i))) (suc j))
          → At i
      go (inl low) ih = mass_low R M F P t n K (suc i) (suc j) (omega arith) (omega arith) ∙ ih low h
      go (inr e) ih = subst At (sym e) top

  -- the force G of joint i, stepped to the parent until it comes to joint j, and paired with S there
  unfoldable pub climb : ℕ → ℕ → For → ℕ → Car
  climb d zero G j = R.zero
  climb zero (suc i) G j = R.zero
  climb (suc d) (suc i) G j = elim (j == suc i) [ true ↦ P.pair (S (suc i)) G | false ↦ climb d (par (suc i)) (X' (suc i) G) j ]

  -- the first number only bounds the steps
  climb_deeper : (d i : ℕ) (G : For) (j : ℕ) → i ≤ d → climb d i G j ≡ climb (suc d) i G j
  unfolding climb
  climb_deeper d zero G j l = refl
  climb_deeper zero (suc i) G j l = absurd (omega arith)
  climb_deeper (suc d) (suc i) G j l =
      go (j == suc i) (climb_deeper d (par (suc i)) (X' (suc i) G) j (let b = lower i in omega arith))
    where
      go :
          (b : Bool) → climb d (par (suc i)) (X' (suc i) G) j ≡ climb (suc d) (par (suc i)) (X' (suc i) G) j
          → elim b as (λ _. Car) [ true ↦ P.pair (S (suc i)) G | false ↦ climb d (par (suc i)) (X' (suc i) G) j ]
          ≡ elim b as (λ _. Car) [ true ↦ P.pair (S (suc i)) G | false ↦ climb (suc d) (par (suc i)) (X' (suc i) G) j ]
      go true e = refl
      go false e = e

  pub walk_is_climb : (n p : ℕ) (G : For) (j : ℕ) → p ≤ n → walk R M F P t n p G j ≡ climb n p G j
  unfolding walk climb
  walk_is_climb zero zero G j l = refl
  walk_is_climb zero (suc p) G j l = absurd (omega arith)
  walk_is_climb (suc n) p G j l =
      go (last? p (suc n) (omega arith)) (walk_is_climb n p G j) (walk_is_climb n (par (suc n)) (X' (suc n) G) j (lower n))
    where
      At : ℕ → Type 0
      At p = walk R M F P t (suc n) p G j ≡ climb (suc n) p G j

      top : walk R M F P t n (par (suc n)) (X' (suc n) G) j ≡ climb n (par (suc n)) (X' (suc n) G) j → At (suc n)
      top e = by (j == suc n) (same? j (suc n))
        where
          by :
              (b : Bool) → Same j (suc n) b
              → walk R M F P t (suc n) (suc n) G j
              ≡ elim b as (λ _. Car) [ true ↦ P.pair (S (suc n)) G | false ↦ climb n (par (suc n)) (X' (suc n) G) j ]
          by true (same q) = ap (walk R M F P t (suc n) (suc n) G) q ∙ walk_here R M F P t n G
          by false (apart q) = walk_else R M F P t n G j q ∙ e

      go :
          (p < suc n) ⊎ (p ≡ suc n) → (p ≤ n → walk R M F P t n p G j ≡ climb n p G j)
          → walk R M F P t n (par (suc n)) (X' (suc n) G) j ≡ climb n (par (suc n)) (X' (suc n) G) j → At p
      go (inl low) ih up = walk_skip R M F P t n p G j (omega arith) ∙ ih (omega arith) ∙ climb_deeper n p G j (omega arith)
      go (inr e) ih up = subst At (sym e) (top up)
