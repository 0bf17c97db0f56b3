-- A tree of one-axis joints, numbered so that a parent is lower than its child.
use Rattle.std.specs.Prelude.{◌≡◌, ℕ, zero, suc, ◌<◌, ◌≤◌, Bool, true, false, T, ◌⊎◌, Some, None, Option, ◌==◌, ◌≢◌}
use Rattle.std.proofs.Math.Path.{refl, sym, ap, ap₂, subst, fun_ext}
use Rattle.std.proofs.Common.{◌∙◌, eqb→eq}
use native.Mathlib.Omega.{arith}
use Rattle.std.proofs.Math.Logic.{inl, inr}
use Rattle.std.proofs.Math.Decide.{dec_le}
use Rattle.std.proofs.Math.Dec.{eqb_refl}
use Rattle.ring.specs.CommRing.{CommRing}
use Rattle.tree_laws.specs.Space.{Module, Pairing, neg_add, mul_neg, mul_left, plus_left, zer_plus, solve, solved, add_left, nil_add, nil_mul, mul_nil, neg_nil}

-- by cases on whether two numbers are equal
pub data Same (i p : ℕ) : Bool → Type 0 where
  same : i ≡ p → Same i p true
  apart : (i ≢ p) → Same i p false

pub same? : (i p : ℕ) → Same i p (i == p)
same? i p = go (i == p) refl
  where
    go : (b : Bool) → (i == p) ≡ b → Same i p b
    go true e = same (eqb→eq i p (rw e tt))
    go false e = apart (λ h. let x : T (i == p) = subst (λ k. T (i == k)) h (eqb_refl i) in subst T e x)

pub last? : (k n : ℕ) → k < suc n → (k < n) ⊎ (k ≡ n)
last? k n h = go (k == n) (same? k n)
  where
    go : (b : Bool) → Same k n b → (k < n) ⊎ (k ≡ n)
    go true (same e) = inr e
    go false (apart f) = inl (omega arith)

pub record Tree (Car Mot For : Type 0) (R : CommRing Car) (M : Module Car R Mot) (F : Module Car R For) (P : Pairing Car Mot For R M F) : Type 0 where
  pub par : ℕ → ℕ
  pub lower : (n : ℕ) → par (suc n) ≤ n
  pub X : ℕ → Mot → Mot
  pub X' : ℕ → For → For
  pub S : ℕ → Mot
  pub X_plus : (k : ℕ) (m n : Mot) → X k (M.plus m n) ≡ M.plus (X k m) (X k n)
  pub X_sc : (k : ℕ) (r : Car) (m : Mot) → X k (M.sc r m) ≡ M.sc r (X k m)
  pub X'_plus : (k : ℕ) (f g : For) → X' k (F.plus f g) ≡ F.plus (X' k f) (X' k g)
  pub X'_sc : (k : ℕ) (r : Car) (f : For) → X' k (F.sc r f) ≡ F.sc r (X' k f)
  pub adjoint : (k : ℕ) (m : Mot) (f : For) → P.pair (X k m) f ≡ P.pair m (X' k f)

-- the table f with x in entry p
unfoldable pub put : {A : Type 0} → (ℕ → A) → ℕ → A → ℕ → A
put f p x i = elim (i == p) [ true ↦ x | false ↦ f i ]

pub put_off : {A : Type 0} (f : ℕ → A) (p : ℕ) (x : A) (i : ℕ) → (i ≢ p) → put f p x i ≡ f i
unfolding put
put_off f p x i h = go (i == p) (same? i p)
  where
    go : (b : Bool) → Same i p b → elim b [ true ↦ x | false ↦ f i ] ≡ f i
    go true (same e) = absurd (h e)
    go false (apart _) = refl

-- what holds of both choices holds of an entry
pub put_cases : {A : Type 0} (Q : A → Type 0) (f : ℕ → A) (p : ℕ) (x : A) (i : ℕ) → Q x → Q (f i) → Q (put f p x i)
unfolding put
put_cases Q f p x i hx hf = go (i == p)
  where
    go : (b : Bool) → Q (elim b [ true ↦ x | false ↦ f i ])
    go true = hx
    go false = hf

pub put_at : {A : Type 0} (f : ℕ → A) (p : ℕ) (x : A) → put f p x p ≡ x
unfolding put
put_at f p x = go (p == p) (same? p p)
  where
    go : (b : Bool) → Same p p b → elim b [ true ↦ x | false ↦ f p ] ≡ x
    go true (same e) = refl
    go false (apart h) = absurd (h refl)

-- a table with a row and the same column put in
unfoldable pub frame : {A : Type 0} → (ℕ → ℕ → A) → ℕ → (ℕ → A) → ℕ → ℕ → A
frame m p w = put (λ i. put (m i) p (w i)) p w

pub frame_sym :
    {A : Type 0} (m : ℕ → ℕ → A) (p : ℕ) (w : ℕ → A) → ((i j : ℕ) → m i j ≡ m j i)
    → (i j : ℕ) → frame m p w i j ≡ frame m p w j i
unfolding frame
frame_sym {A} m p w h i j = go (i == p) (same? i p) (j == p) (same? j p)
  where
    row : (j : ℕ) → frame m p w p j ≡ w j
    row j = ap (λ (g : ℕ → A). g j) (put_at _ p w)

    off : (i : ℕ) → (i ≢ p) → frame m p w i ≡ put (m i) p (w i)
    off i f = put_off _ p w i f

    col : (i : ℕ) → (i ≢ p) → frame m p w i p ≡ w i
    col i f = ap (λ (g : ℕ → A). g p) (off i f) ∙ put_at _ p _

    low : (i j : ℕ) → (i ≢ p) → (j ≢ p) → frame m p w i j ≡ m i j
    low i j f g = ap (λ (r : ℕ → A). r j) (off i f) ∙ put_off _ p _ j g

    go : (b : Bool) → Same i p b → (e : Bool) → Same j p e → frame m p w i j ≡ frame m p w j i
    go true (same x) true (same y) = subst (λ j. frame m p w i j ≡ frame m p w j i) (x ∙ sym y) refl
    go true (same x) false (apart g) = rw x (row j ∙ sym (col j g))
    go false (apart f) true (same y) = rw y (col i f ∙ sym (row i))
    go false (apart f) false (apart g) = low i j f g ∙ h i j ∙ sym (low j i g f)

-- additions to an entry of a table
module _ {Car : Type 0} {R : CommRing Car} {Vec : Type 0} (F : Module Car R Vec) where
  open F use {plus as ◌+◌, zer, plus_zer}

  infixl 60 ◌+◌
  abbrev pub when : Bool → Vec → Vec
  when true x = x
  when false x = zer

  -- the table f with x added to entry p
  unfoldable pub bump : (ℕ → Vec) → ℕ → Vec → ℕ → Vec
  bump f p x i = f i + when (i == p) x

  pub when_off : (i p : ℕ) (x : Vec) → (i ≢ p) → when (i == p) x ≡ zer
  when_off i p x h = go (i == p) (same? i p)
    where
      go : (b : Bool) → Same i p b → when b x ≡ zer
      go true (same e) = absurd (h e)
      go false (apart _) = refl

  pub when_on : (p : ℕ) (x : Vec) → when (p == p) x ≡ x
  when_on p x = go (p == p) (same? p p)
    where
      go : (b : Bool) → Same p p b → when b x ≡ x
      go true (same _) = refl
      go false (apart h) = absurd (h refl)

  pub when_plus : (b : Bool) (x y : Vec) → when b (x + y) ≡ when b x + when b y
  when_plus true x y = refl
  when_plus false x y = sym (plus_zer zer)

  pub bump_off : (f : ℕ → Vec) (i p : ℕ) (x : Vec) → (i ≢ p) → bump f p x i ≡ f i
  unfolding bump
  bump_off f i p x h = ap (λ w. f i + w) (when_off i p x h) ∙ plus_zer (f i)

  -- in entry p only what stands at p matters
  pub when_at : (i p : ℕ) (g : ℕ → Vec) → when (i == p) (g i) ≡ when (i == p) (g p)
  when_at i p g = go (i == p) (same? i p)
    where
      go : (b : Bool) → Same i p b → when b (g i) ≡ when b (g p)
      go true (same e) = ap g e
      go false (apart _) = refl

module _ {Car Mot For : Type 0} (R : CommRing Car) (M : Module Car R Mot) (F : Module Car R For) (P : Pairing Car Mot For R M F) (t : Tree Car Mot For R M F P) where
  open M use {plus as ◌+ₘ◌, sc as ◌·ₘ◌}
  open F use {plus as ◌+◌, sc as ◌·◌, zer}
  open P use {pair}
  open t use {par, lower, X, X', S}

  infixl 60 ◌+ₘ◌
  infixl 60 ◌+◌
  infixl 70 ◌·ₘ◌
  infixl 70 ◌·◌
  -- the inward loop, from n down to 1: each entry is carried to the parent's
  unfoldable pub inward : ℕ → (ℕ → For) → ℕ → For
  inward zero f = f
  inward (suc n) f = inward n (bump F f (par (suc n)) (X' (suc n) (f (suc n))))

  abbrev pub Op : Type 0
  Op = Mot → For

  -- the force at each joint before the inward loop
  unfoldable pub forces : (ℕ → Op) → (ℕ → For) → (ℕ → Mot) → ℕ → For
  forces A β a i = A i (a i) + β i

  unfoldable pub torque : ℕ → (ℕ → Op) → (ℕ → For) → (ℕ → Mot) → ℕ → Car
  torque n A β a i = pair (S i) (inward n (forces A β a) i)

  pub untouched : (n : ℕ) (f : ℕ → For) (i : ℕ) → n ≤ i → inward n f i ≡ f i
  unfolding inward
  untouched zero f i h = refl
  untouched (suc n) f i h =
      untouched n _ i (omega arith)
      ∙ bump_off F f i (par (suc n)) _ (λ e. let l = lower n in omega arith)

  pub agree :
      (n N : ℕ) (f g : ℕ → For) → n ≤ N → ((i : ℕ) → i ≤ N → f i ≡ g i)
      → (i : ℕ) → i ≤ N → inward n f i ≡ inward n g i
  unfolding inward bump
  agree zero N f g le h i hi = h i hi
  agree (suc n) N f g le h i hi =
      agree n N _ _ (omega arith) (λ k hk. simp (bump, h k hk, h (suc n) le)) i hi

  -- what an inertia is: linear, and symmetric under the pairing
  pub record Inertia (A : Op) : Type 0 where
    pub lin_plus : (m n : Mot) → A (m +ₘ n) ≡ A m + A n
    pub lin_sc : (r : Car) (m : Mot) → A (r ·ₘ m) ≡ r · A m
    pub symm : (m n : Mot) → pair m (A n) ≡ pair n (A m)

  open R use {add as ◌⊕◌, mul as ◌⊗◌, neg, zero as nil, one}

  infixl 60 ◌⊕◌
  infixl 70 ◌⊗◌
  -- the elimination of joint k, with the inertia A and the inverse d of the pivot
  module _ (k : ℕ) (A : Op) where
    abbrev pub pivot : Car
    pivot = pair (S k) (A (S k))

    module _ (d : Car) where
      -- A without what the joint lets go
      unfoldable pub left : Op
      left m = A m + (d ⊗ neg (pair m (A (S k)))) · A (S k)

      unfoldable pub handed_op : Op
      handed_op m = X' k (left (X k m))

  module _ (k : ℕ) (A : Op) (inertia : Inertia A) (d : Car) where
    open F use {plus_assoc, plus_comm, add_sc, sc_plus, mul_sc}
    open P use {pair_plus, pair_sc, plus_pair, sc_pair}
    open t use {X_plus, X_sc, X'_plus, X'_sc, adjoint}
    open R use {distrib as mul_add, mul_assoc, mul_comm}
    open inertia use {lin_plus, lin_sc, symm}

    pub left_inertia : Inertia (left k A d)
    unfolding left
    left_inertia =
        record {
          lin_plus = λ m n. simp (left, lin_plus, plus_pair, neg_add R, mul_add, add_sc, plus_assoc, plus_comm, plus_left F);
          lin_sc = λ r m. simp (left, lin_sc, sc_pair, sc_plus, ← mul_sc, mul_neg R, mul_assoc, mul_comm, mul_left R);
          symm = λ m n. simp (left, symm m n, pair_plus, pair_sc, mul_neg R, mul_assoc, mul_comm, mul_left R);
        }

    pub handed_inertia : Inertia (handed_op k A d)
    unfolding handed_op
    handed_inertia =
        record {
          lin_plus = λ m n. simp (handed_op, X_plus, left_inertia.lin_plus, X'_plus);
          lin_sc = λ r m. simp (handed_op, X_sc, left_inertia.lin_sc, X'_sc);
          symm = λ m n. simp (handed_op, ← adjoint, left_inertia.symm (X k m) (X k n));
        }

  unfoldable pub bump_op : (ℕ → Op) → ℕ → Op → ℕ → Op
  bump_op A p B i m = A i m + when F (i == p) (B m)

  pub sum_inertia : (A B : Op) → Inertia A → Inertia B → Inertia (λ m. A m + B m)
  sum_inertia A B h_a h_b =
      record {
        lin_plus = λ m n. simp (h_a.lin_plus, h_b.lin_plus, plus_assoc, plus_comm, plus_left F);
        lin_sc = λ r m. simp (h_a.lin_sc, h_b.lin_sc, sc_plus);
        symm = λ m n. simp (pair_plus, h_a.symm m n, h_b.symm m n);
      }
    where
      open F use {plus_assoc, plus_comm, sc_plus}
      open P use {pair_plus}

  pub bump_inertia :
      (A : ℕ → Op) (p : ℕ) (B : Op) → ((i : ℕ) → Inertia (A i)) → Inertia B → (i : ℕ) → Inertia (bump_op A p B i)
  unfolding bump_op
  bump_inertia A p B h_a h_b i = go (i == p)
    where
      open F use {plus_zer}

      go : (b : Bool) → Inertia (λ m. A i m + when F b (B m))
      go true = sum_inertia (A i) B (h_a i) h_b
      go false =
          record {
            lin_plus = λ m n. simp (plus_zer, (h_a i).lin_plus);
            lin_sc = λ r m. simp (plus_zer, (h_a i).lin_sc);
            symm = λ m n. simp (plus_zer, (h_a i).symm m n);
          }

  -- one turn of the inward loop of the accelerations
  module _ (n : ℕ) (A : ℕ → Op) (d : Car) where
    unfoldable pub next_op : ℕ → Op
    next_op = bump_op A (par (suc n)) (handed_op (suc n) (A (suc n)) d)

    module _ (h_a : (i : ℕ) → Inertia (A i)) (β : ℕ → For) (τ : ℕ → Car) where
      pub next_inertia : (i : ℕ) → Inertia (next_op i)
      unfolding next_op
      next_inertia = bump_inertia A _ _ h_a (handed_inertia (suc n) (A (suc n)) (h_a (suc n)) d)

  pub data Outcome : Type 0 where
    refused : ℕ → Outcome
    found : (ℕ → Car) → (ℕ → Mot) → Outcome

  -- a test for units, and what it says
  pub record Inverts (inv : Car → Option Car) : Type 0 where
    pub sound : (x y : Car) → inv x ≡ Some y → x ⊗ y ≡ one
    pub complete : (x : Car) → inv x ≡ None → (y : Car) → x ⊗ y ≡ one → ⊥

  -- j is the highest joint without a unit pivot
  abbrev pub Fails : ℕ → (ℕ → Op) → ℕ → Type 0
  Fails zero A j = ⊥
  Fails (suc n) A j =
      ((j ≡ suc n) × ((d : Car) → pivot (suc n) (A (suc n)) ⊗ d ≡ one → ⊥))
      ⊎ ((d : Car) × (pivot (suc n) (A (suc n)) ⊗ d ≡ one) × Fails n (next_op n A d) j)

  -- the joints above m have unit pivots
  abbrev pub Units : ℕ → ℕ → (ℕ → Op) → Type 0
  Units m zero A = Unit {0}
  Units m (suc n) A = m ≤ n → (d : Car) × (pivot (suc n) (A (suc n)) ⊗ d ≡ one) × Units m n (next_op n A d)

  pub fails_units : (n : ℕ) (A : ℕ → Op) (j m : ℕ) → Fails n A j → j ≤ m → Units m n A
  fails_units zero A j m f l = tt
  fails_units (suc n) A j m (inl h) l = λ b. let e = h.0 in absurd (omega arith)
  fails_units (suc n) A j m (inr h) l = λ b. (h.0, h.1, fails_units n (next_op n A h.0) j m h.2 l)

  pub fails_bound : (n : ℕ) (A : ℕ → Op) (j : ℕ) → Fails n A j → (0 < j) × (j ≤ n)
  fails_bound zero A j f = absurd f
  fails_bound (suc n) A j (inl h) = let e = h.0 in omega arith
  fails_bound (suc n) A j (inr h) = let r = fails_bound n _ j h.2 in omega arith

  -- the mass matrix

  -- the force G of joint p, felt at the axis of each joint on the way from p to the base
  unfoldable pub walk : ℕ → ℕ → For → ℕ → Car
  walk zero p G = λ _. nil
  walk (suc n) p G =
      put (λ j. walk n j G) (suc n) (put (walk n (par (suc n)) (X' (suc n) G)) (suc n) (pair (S (suc n)) G)) p

  unfoldable pub next_k : ℕ → (ℕ → Op) → ℕ → Op
  next_k n K = bump_op K (par (suc n)) (λ m. X' (suc n) (K (suc n) (X (suc n) m)))

  unfoldable pub mass : ℕ → (ℕ → Op) → ℕ → ℕ → Car
  mass zero K = λ _ _. nil
  mass (suc n) K =
      frame (mass n (next_k n K)) (suc n) (walk (suc n) (suc n) (K (suc n) (S (suc n))))

  unfoldable pub sum : ℕ → (ℕ → Car) → Car
  sum zero g = nil
  sum (suc n) g = sum n g ⊕ g (suc n)

  pub sum_cong : (n : ℕ) (g h : ℕ → Car) → ((k : ℕ) → k < n → g (suc k) ≡ h (suc k)) → sum n g ≡ sum n h
  unfolding sum
  sum_cong zero g h e = refl
  sum_cong (suc n) g h e = ap₂ ◌⊕◌ (sum_cong n g h (λ k l. e k (omega arith))) (e n (omega arith))

  pub walk_here : (n : ℕ) (G : For) → walk (suc n) (suc n) G (suc n) ≡ pair (S (suc n)) G
  unfolding walk
  walk_here n G = ap (λ g. g (suc n)) (put_at (λ j. walk n j G) (suc n) _) ∙ put_at _ (suc n) _

  pub walk_step : (n : ℕ) (G : For) (i : ℕ) → i ≤ n → walk (suc n) (suc n) G i ≡ walk n (par (suc n)) (X' (suc n) G) i
  unfolding walk
  walk_step n G i l = ap (λ g. g i) (put_at (λ j. walk n j G) (suc n) _) ∙ put_off _ (suc n) _ i (λ e. omega arith)

  pub walk_else : (n : ℕ) (G : For) (i : ℕ) → (i ≢ suc n) → walk (suc n) (suc n) G i ≡ walk n (par (suc n)) (X' (suc n) G) i
  unfolding walk
  walk_else n G i f = ap (λ g. g i) (put_at (λ j. walk n j G) (suc n) _) ∙ put_off _ (suc n) _ i f

  pub walk_skip : (n p : ℕ) (G : For) (i : ℕ) → p ≤ n → walk (suc n) p G i ≡ walk n p G i
  unfolding walk
  walk_skip n p G i l = ap (λ g. g i) (put_off (λ j. walk n j G) (suc n) _ p (λ e. omega arith))

  walk_high : (n p : ℕ) (G : For) (i : ℕ) → n < i → walk n p G i ≡ nil
  unfolding walk
  walk_high zero p G i l = refl
  walk_high (suc n) p G i l =
      put_cases {A = ℕ → Car} (λ g. g i ≡ nil) _ (suc n) _ p
      (put_off _ (suc n) _ i (λ e. omega arith) ∙ walk_high n _ _ i (omega arith))
      (walk_high n p G i (omega arith))

  pub mass_low : (n : ℕ) (A : ℕ → Op) (i j : ℕ) → i ≤ n → j ≤ n → mass (suc n) A i j ≡ mass n (next_k n A) i j
  unfolding mass frame
  mass_low n A i j hi hj =
      ap (λ (g : ℕ → Car). g j) (put_off _ (suc n) _ i (λ e. omega arith)) ∙ put_off _ (suc n) _ j (λ e. omega arith)

  mass_last : (n : ℕ) (A : ℕ → Op) (i : ℕ) → i ≤ n → mass (suc n) A i (suc n) ≡ walk (suc n) (suc n) (A (suc n) (S (suc n))) i
  unfolding mass frame
  mass_last n A i hi =
      ap (λ (g : ℕ → Car). g (suc n)) (put_off _ (suc n) _ i (λ e. omega arith)) ∙ put_at _ (suc n) _

  pub mass_first : (n : ℕ) (A : ℕ → Op) (j : ℕ) → mass (suc n) A (suc n) j ≡ walk (suc n) (suc n) (A (suc n) (S (suc n))) j
  unfolding mass frame
  mass_first n A j = ap (λ (g : ℕ → Car). g j) (put_at _ (suc n) _)

  module _ where
    open F use {plus_assoc, plus_comm, plus_zer}
    open M use {nil_sc}
    open P use {pair_plus, pair_sc, plus_pair, sc_pair}
    open t use {X'_plus, X'_sc, adjoint}
    open R use {add_assoc, add_comm, add_zero as add_nil, mul_comm}

    bump_at : (f : ℕ → For) (p : ℕ) (G : For) → bump F f p G p ≡ f p + G
    unfolding bump
    bump_at f p G = ap (λ g. f p + g) (when_on F p G)

    bump_swap : (f : ℕ → For) (p r : ℕ) (G H : For) → bump F (bump F f p G) r H ≡ bump F (bump F f r H) p G
    unfolding bump
    bump_swap f p r G H = fun_ext λ i. swap (f i) (when F (i == p) G) (when F (i == r) H)
      where
        swap : (x y z : For) → x + y + z ≡ x + z + y
        swap x y z = simp (plus_assoc, plus_comm)

    abbrev More : ℕ → Type 0
    More n =
        (p : ℕ) (f : ℕ → For) (G : For) → p ≤ n → (k : ℕ) → k < n
        → pair (S (suc k)) (inward n (bump F f p G) (suc k)) ≡ pair (S (suc k)) (inward n f (suc k)) ⊕ walk n p G (suc k)

    module _ (n : ℕ) (ih : More n) (f : ℕ → For) (G : For) where
      more_top_top :
          pair (S (suc n)) (inward (suc n) (bump F f (suc n) G) (suc n))
          ≡ pair (S (suc n)) (inward (suc n) f (suc n)) ⊕ walk (suc n) (suc n) G (suc n)
      more_top_top =
          ap (pair (S (suc n))) (untouched (suc n) _ (suc n) (omega arith) ∙ bump_at f (suc n) G)
          ∙ pair_plus _ _ _
          ∙ ap₂ (λ x y. pair (S (suc n)) x ⊕ y) (sym (untouched (suc n) f (suc n) (omega arith))) (sym (walk_here n G))

      more_top :
          (k : ℕ) → k < n
          → pair (S (suc k)) (inward (suc n) (bump F f (suc n) G) (suc k))
          ≡ pair (S (suc k)) (inward (suc n) f (suc k)) ⊕ walk (suc n) (suc n) G (suc k)
      unfolding inward bump
      more_top k l =
          ap (pair (S (suc k))) (agree n n _ _ (omega arith) same_low (suc k) l)
          ∙ ih r (bump F f r (X' (suc n) (f (suc n)))) (X' (suc n) G) (lower n) k l
          ∙ ap (λ y. pair (S (suc k)) (inward (suc n) f (suc k)) ⊕ y) (sym (walk_step n G (suc k) l))
        where
          r : ℕ
          r = par (suc n)

          same_low :
              (i : ℕ) → i ≤ n
              → bump F (bump F f (suc n) G) r (X' (suc n) (bump F f (suc n) G (suc n))) i
              ≡ bump F (bump F f r (X' (suc n) (f (suc n)))) r (X' (suc n) G) i
          same_low i hi =
              ap₂ (λ x y. x + when F (i == r) y)
              (bump_off F f i (suc n) G (λ e. omega arith))
              (ap (X' (suc n)) (bump_at f (suc n) G) ∙ X'_plus (suc n) (f (suc n)) G)
              ∙ ap (λ y. f i + y) (when_plus F (i == r) _ _)
              ∙ sym (plus_assoc _ _ _)

      module _ (p : ℕ) (hp : p ≤ n) where
        more_low_top :
            pair (S (suc n)) (inward (suc n) (bump F f p G) (suc n))
            ≡ pair (S (suc n)) (inward (suc n) f (suc n)) ⊕ walk (suc n) p G (suc n)
        more_low_top =
            ap (pair (S (suc n)))
            (untouched (suc n) _ (suc n) (omega arith) ∙ bump_off F f (suc n) p G (λ e. omega arith)
            ∙ sym (untouched (suc n) f (suc n) (omega arith)))
            ∙ sym (add_nil _)
            ∙ ap (λ y. pair (S (suc n)) (inward (suc n) f (suc n)) ⊕ y)
            (sym (walk_skip n p G (suc n) hp ∙ walk_high n p G (suc n) (omega arith)))

        more_low :
            (k : ℕ) → k < n
            → pair (S (suc k)) (inward (suc n) (bump F f p G) (suc k))
            ≡ pair (S (suc k)) (inward (suc n) f (suc k)) ⊕ walk (suc n) p G (suc k)
        unfolding inward
        more_low k l =
            ap (λ h. pair (S (suc k)) (inward n h (suc k)))
            (ap (λ y. bump F (bump F f p G) r (X' (suc n) y)) (bump_off F f (suc n) p G (λ e. omega arith))
            ∙ bump_swap f p r G (X' (suc n) (f (suc n))))
            ∙ ih p (bump F f r (X' (suc n) (f (suc n)))) G hp k l
            ∙ ap (λ y. pair (S (suc k)) (inward (suc n) f (suc k)) ⊕ y) (sym (walk_skip n p G (suc k) hp))
          where
            r : ℕ
            r = par (suc n)

    -- a force more at joint p is felt on the way to the base
    more : (n : ℕ) → More n
    more zero p f G l k hk = absurd (omega arith)
    more (suc n) p f G l k hk = go (last? p (suc n) (omega arith)) (last? k n hk) (more n)
      where
        Goal : ℕ → ℕ → Type 0
        Goal p k = pair (S (suc k)) (inward (suc n) (bump F f p G) (suc k)) ≡ pair (S (suc k)) (inward (suc n) f (suc k)) ⊕ walk (suc n) p G (suc k)

        go : (p < suc n) ⊎ (p ≡ suc n) → (k < n) ⊎ (k ≡ n) → More n → Goal p k
        go (inl a) (inl b) ih = more_low n ih f G p (omega arith) k b
        go (inl a) (inr b) ih = subst (Goal p) (sym b) (more_low_top n ih f G p (omega arith))
        go (inr a) (inl b) ih = subst (λ j. Goal j k) (sym a) (more_top n ih f G k b)
        go (inr a) (inr b) ih = subst (λ j. Goal j k) (sym a) (subst (Goal (suc n)) (sym b) (more_top_top n ih f G))

    walk_sc : (n p : ℕ) (r : Car) (G : For) → p ≤ n → (k : ℕ) → k < n → walk n p (r · G) (suc k) ≡ r ⊗ walk n p G (suc k)
    walk_sc zero p r G l k hk = absurd (omega arith)
    walk_sc (suc n) p r G l k hk = go (last? p (suc n) (omega arith)) (last? k n hk) (walk_sc n)
      where
        Goal : ℕ → ℕ → Type 0
        Goal p k = walk (suc n) p (r · G) (suc k) ≡ r ⊗ walk (suc n) p G (suc k)

        here : Goal (suc n) n
        here = walk_here n (r · G) ∙ pair_sc _ r G ∙ ap (λ y. r ⊗ y) (sym (walk_here n G))

        go : (p < suc n) ⊎ (p ≡ suc n) → (k < n) ⊎ (k ≡ n)
            → ((p : ℕ) (r : Car) (G : For) → p ≤ n → (k : ℕ) → k < n → walk n p (r · G) (suc k) ≡ r ⊗ walk n p G (suc k))
            → Goal p k
        go (inl a) (inl b) ih = walk_skip n p (r · G) (suc k) (omega arith) ∙ ih p r G (omega arith) k b ∙ ap (λ y. r ⊗ y) (sym (walk_skip n p G (suc k) (omega arith)))
        go (inl a) (inr b) ih = walk_skip n p (r · G) (suc k) (omega arith) ∙ walk_high n p _ (suc k) (omega arith) ∙ sym (ap (λ y. r ⊗ y) (walk_skip n p G (suc k) (omega arith) ∙ walk_high n p G (suc k) (omega arith)) ∙ mul_nil R r)
        go (inr a) (inl b) ih =
            subst (λ j. Goal j k) (sym a)
            (walk_step n (r · G) (suc k) b ∙ ap (λ f. walk n (par (suc n)) f (suc k)) (X'_sc (suc n) r G)
            ∙ ih (par (suc n)) r (X' (suc n) G) (lower n) k b ∙ ap (λ y. r ⊗ y) (sym (walk_step n G (suc k) b)))
        go (inr a) (inr b) ih = subst (λ j. Goal j k) (sym a) (subst (Goal (suc n)) (sym b) here)

    pub mass_symmetric : (n : ℕ) (K : ℕ → Op) (i j : ℕ) → mass n K i j ≡ mass n K j i
    unfolding mass
    mass_symmetric zero K i j = refl
    mass_symmetric (suc n) K i j = frame_sym (mass n (next_k n K)) (suc n) _ (mass_symmetric n (next_k n K)) i j

  -- with the accelerations c of the axes
  module _ (c : ℕ → Mot) where
    module _ (k : ℕ) (A : Op) (d : Car) (b : For) (τ : Car) where
      unfoldable pub handed : For
      handed = X' k (b + left k A d (c k) + (d ⊗ (τ ⊕ neg (pair (S k) b))) · A (S k))

      -- the joint's acceleration, at the parent's acceleration
      unfoldable pub accel : Mot → Car
      accel a = d ⊗ (τ ⊕ neg (pair (S k) b) ⊕ neg (pair (X k a +ₘ c k) (A (S k))))

    -- the acceleration of joint k, when it accelerates by q on its parent's a
    abbrev pub moved : ℕ → Mot → Car → Mot
    moved k a q = X k a +ₘ c k +ₘ q ·ₘ S k

    module _ (k : ℕ) (A : Op) (inertia : Inertia A) (d : Car) where
      open F use {plus_assoc, plus_comm, add_sc, sc_plus, mul_sc}
      open P use {pair_plus, pair_sc, plus_pair, sc_pair}
      open t use {X_plus, X_sc, X'_plus, X'_sc, adjoint}
      open R use {distrib as mul_add, mul_assoc, mul_comm}
      open inertia use {lin_plus, lin_sc, symm}

      module _ (b : For) (τ : Car) where
        pub carried : (a : Mot) → X' k (A (moved k a (accel k A d b τ a)) + b) ≡ handed_op k A d a + handed k A d b τ
        unfolding accel left handed_op handed
        carried a =
            simp (lin_plus, lin_sc, plus_pair, neg_add R, mul_add, add_sc, X'_plus, plus_assoc, plus_comm, plus_left F)

        pub felt :
            (a : Mot) (q : Car)
            → pair (S k) (A (moved k a q) + b) ≡ pair (X k a +ₘ c k) (A (S k)) ⊕ q ⊗ pivot k A ⊕ pair (S k) b
        felt a q = simp (lin_plus (X k a +ₘ c k), lin_sc, pair_plus, pair_sc, symm (S k) (X k a +ₘ c k))

        pub meets : pivot k A ⊗ d ≡ one → (a : Mot) → pair (S k) (A (moved k a (accel k A d b τ a)) + b) ≡ τ
        unfolding accel
        meets e a = felt a (accel k A d b τ a) ∙ solved R (pivot k A) d _ _ τ e

        pub forced :
            pivot k A ⊗ d ≡ one → (a : Mot) (q : Car)
            → pair (S k) (A (moved k a q) + b) ≡ τ → q ≡ accel k A d b τ a
        unfolding accel
        forced e a q h = solve R (pivot k A) d q _ _ τ e (sym (felt a q) ∙ h)

    module _ (n : ℕ) (A : ℕ → Op) (d : Car) where
      unfoldable pub next_bias : (ℕ → For) → (ℕ → Car) → ℕ → For
      next_bias β τ = bump F β (par (suc n)) (handed (suc n) (A (suc n)) d (β (suc n)) (τ (suc n)))

      unfoldable pub next_q : (ℕ → For) → (ℕ → Car) → (ℕ → Mot) → Car
      next_q β τ a = accel (suc n) (A (suc n)) d (β (suc n)) (τ (suc n)) (a (par (suc n)))

      unfoldable pub next_a : (ℕ → Mot) → Car → Mot
      next_a a q = moved (suc n) (a (par (suc n))) q

      module _ (h_a : (i : ℕ) → Inertia (A i)) (β : ℕ → For) (τ : ℕ → Car) where
        -- the last joint's force, carried to its parent, is what a lighter tree feels
        pub peel :
            (a : ℕ → Mot) → a (suc n) ≡ next_a a (next_q β τ a)
            → inward (suc n) (forces A β a) ≡ inward n (forces (next_op n A d) (next_bias β τ) a)
        unfolding inward forces next_op next_bias bump_op bump next_q next_a
        peel a e =
            ap (inward n) (fun_ext λ i.
            ap (λ f. A i (a i) + β i + when F (i == p) f) (ap (λ m. X' (suc n) (A (suc n) m + β (suc n))) e ∙ carried (suc n) (A (suc n)) (h_a (suc n)) d (β (suc n)) (τ (suc n)) (a p))
            ∙ ap (λ f. A i (a i) + β i + f) (when_plus F (i == p) (B (a p)) h ∙ ap (λ f. f + when F (i == p) h) (sym (when_at F i p (λ j. B (a j)))))
            ∙ shuffle _ _ _ _)
          where
            open F use {plus_assoc, plus_comm}

            p : ℕ
            p = par (suc n)

            B : Op
            B = handed_op (suc n) (A (suc n)) d

            h : For
            h = handed (suc n) (A (suc n)) d (β (suc n)) (τ (suc n))

            shuffle : (x y z w : For) → x + y + (z + w) ≡ x + z + (y + w)
            shuffle x y z w = simp (plus_assoc, plus_comm, plus_left F)

    -- one turn of the outward loop
    unfoldable pub grow : (n : ℕ) → (ℕ → Op) → Car → (ℕ → For) → (ℕ → Car) → Outcome → Outcome
    grow n A d β τ (refused k) = refused k
    grow n A d β τ (found q a) =
        found (put q (suc n) (next_q n A d β τ a)) (put a (suc n) (next_a n A d a (next_q n A d β τ a)))

    -- the joints up to m accelerate as a0 says
    module _ (m : ℕ) (a0 : ℕ → Mot) where
      -- a is the table of accelerations at the joint accelerations q
      pub record Moves (n : ℕ) (q : ℕ → Car) (a : ℕ → Mot) : Type 0 where
        pub base : (i : ℕ) → i ≤ m → a i ≡ a0 i
        pub step : (k : ℕ) → m ≤ k → k < n → a (suc k) ≡ X (suc k) (a (par (suc k))) +ₘ c (suc k) +ₘ q (suc k) ·ₘ S (suc k)

      fewer : {n : ℕ} {q : ℕ → Car} {a : ℕ → Mot} → Moves (suc n) q a → Moves n q a
      fewer g = record { base = g.base; step = λ k b l. g.step k b (omega arith) }

      -- a right motion: it meets the torques τ
      pub record Answers (n : ℕ) (A : ℕ → Op) (β : ℕ → For) (τ q : ℕ → Car) (a : ℕ → Mot) : Type 0 where
        pub moves : Moves n q a
        pub meet : (k : ℕ) → m ≤ k → k < n → torque n A β a (suc k) ≡ τ (suc k)

      pub record AgreeOn (n : ℕ) (q q' : ℕ → Car) (a a' : ℕ → Mot) : Type 0 where
        pub on_a : (i : ℕ) → i ≤ n → a i ≡ a' i
        pub on_q : (k : ℕ) → m ≤ k → k < n → q (suc k) ≡ q' (suc k)

      pub record Unique (n : ℕ) (A : ℕ → Op) (β : ℕ → For) (τ q : ℕ → Car) (a : ℕ → Mot) : Type 0 where
        pub answers : Answers n A β τ q a
        pub only : (q' : ℕ → Car) (a' : ℕ → Mot) → Answers n A β τ q' a' → AgreeOn n q' q a' a

      -- the last step, when the lighter tree is solved
      module _ (n : ℕ) (A : ℕ → Op) (h_a : (i : ℕ) → Inertia (A i)) (d : Car) (e : pivot (suc n) (A (suc n)) ⊗ d ≡ one) (hm : m ≤ n) (β : ℕ → For) (τ : ℕ → Car) where
        -- an answer for the whole tree is one for the lighter tree
        module _ (q' : ℕ → Car) (a' : ℕ → Mot) (g : Answers (suc n) A β τ q' a') where
          down_q : q' (suc n) ≡ next_q n A d β τ a'
          unfolding next_q torque forces
          down_q =
              forced (suc n) (A (suc n)) (h_a (suc n)) d (β (suc n)) (τ (suc n)) e (a' (par (suc n))) (q' (suc n))
              (ap (λ m. pair (S (suc n)) (A (suc n) m + β (suc n))) (sym (g.moves.step n hm (omega arith)))
              ∙ ap (pair (S (suc n))) (sym (untouched (suc n) (forces A β a') (suc n) (omega arith)))
              ∙ g.meet n hm (omega arith))

          down_a : a' (suc n) ≡ next_a n A d a' (next_q n A d β τ a')
          unfolding next_a
          down_a = g.moves.step n hm (omega arith) ∙ ap (λ r. moved (suc n) (a' (par (suc n))) r) down_q

          down : Answers n (next_op n A d) (next_bias n A d β τ) τ q' a'
          unfolding torque
          down =
              record {
                moves = record { base = g.moves.base; step = λ k b l. g.moves.step k b (omega arith) };
                meet = λ k b l.
                    ap (λ f. pair (S (suc k)) (f (suc k))) (sym (peel n A d h_a β τ a' down_a)) ∙ g.meet k b (omega arith);
              }

        module _ (q : ℕ → Car) (a : ℕ → Mot) (h : Answers n (next_op n A d) (next_bias n A d β τ) τ q a) where
          x : Car
          x = next_q n A d β τ a

          q2 : ℕ → Car
          q2 = put q (suc n) x

          a2 : ℕ → Mot
          a2 = put a (suc n) (next_a n A d a x)

          a2_low : (i : ℕ) → i ≤ n → a2 i ≡ a i
          unfolding a2
          a2_low i hi = put_off a (suc n) _ i (λ eq. omega arith)

          a2_top : a2 (suc n) ≡ next_a n A d a2 (next_q n A d β τ a2)
          unfolding a2 next_a next_q x
          a2_top = put_at a (suc n) _ ∙ ap (λ m. next_a n A d (λ _. m) (next_q n A d β τ (λ _. m))) (sym (a2_low (par (suc n)) (lower n)))

          q2_low : (k : ℕ) → k < n → q2 (suc k) ≡ q (suc k)
          unfolding q2
          q2_low k hk = put_off q (suc n) _ (suc k) (λ eq. omega arith)

          a2_base : (i : ℕ) → i ≤ m → a2 i ≡ a0 i
          a2_base i l = a2_low i (omega arith) ∙ h.moves.base i l

          a2_step : (k : ℕ) → m ≤ k → k < suc n → a2 (suc k) ≡ X (suc k) (a2 (par (suc k))) +ₘ c (suc k) +ₘ q2 (suc k) ·ₘ S (suc k)
          unfolding a2 q2 next_a x
          a2_step k b hk = go (last? k n hk)
            where
              top : a2 (suc n) ≡ moved (suc n) (a2 (par (suc n))) (q2 (suc n))
              top =
                  put_at a (suc n) _
                  ∙ ap₂ (λ m r. moved (suc n) m r) (sym (a2_low (par (suc n)) (lower n))) (sym (put_at q (suc n) x))

              go : (k < n) ⊎ (k ≡ n) → a2 (suc k) ≡ moved (suc k) (a2 (par (suc k))) (q2 (suc k))
              go (inl l) =
                  a2_low (suc k) l ∙ h.moves.step k b l
                  ∙ ap₂ (λ m r. moved (suc k) m r) (sym (a2_low (par (suc k)) (omega (arith, lower k)))) (sym (q2_low k l))
              go (inr eq) = subst (λ j. a2 (suc j) ≡ moved (suc j) (a2 (par (suc j))) (q2 (suc j))) (sym eq) top

          a2_meet : (k : ℕ) → m ≤ k → k < suc n → torque (suc n) A β a2 (suc k) ≡ τ (suc k)
          unfolding torque forces next_a next_q
          a2_meet k b hk = go (last? k n hk)
            where
              top : torque (suc n) A β a2 (suc n) ≡ τ (suc n)
              top =
                  ap (pair (S (suc n))) (untouched (suc n) _ (suc n) (omega arith))
                  ∙ ap (λ m. pair (S (suc n)) (A (suc n) m + β (suc n))) a2_top
                  ∙ meets (suc n) (A (suc n)) (h_a (suc n)) d (β (suc n)) (τ (suc n)) e (a2 (par (suc n)))

              low : k < n → torque (suc n) A β a2 (suc k) ≡ τ (suc k)
              low l =
                  ap (λ g. pair (S (suc k)) (g (suc k))) (peel n A d h_a β τ a2 a2_top)
                  ∙ ap (pair (S (suc k)))
                  (agree n n _ _ (omega arith)
                  (λ i hi. ap (λ m. next_op n A d i m + next_bias n A d β τ i) (a2_low i hi)) (suc k) l)
                  ∙ h.meet k b l

              go : (k < n) ⊎ (k ≡ n) → torque (suc n) A β a2 (suc k) ≡ τ (suc k)
              go (inl l) = low l
              go (inr eq) = subst (λ j. torque (suc n) A β a2 (suc j) ≡ τ (suc j)) (sym eq) top

          grown : Answers (suc n) A β τ q2 a2
          grown = record { moves = record { base = a2_base; step = a2_step }; meet = a2_meet }

          only_grown :
              ((q' : ℕ → Car) (a' : ℕ → Mot) → Answers n (next_op n A d) (next_bias n A d β τ) τ q' a' → AgreeOn n q' q a' a)
              → (q' : ℕ → Car) (a' : ℕ → Mot) → Answers (suc n) A β τ q' a' → AgreeOn (suc n) q' q2 a' a2
          unfolding q2 a2 x next_q next_a
          only_grown only q' a' g = record { on_a = on_a2; on_q = on_q2 }
            where
              ih : AgreeOn n q' q a' a
              ih = only q' a' (down q' a' g)

              same_q : q' (suc n) ≡ q2 (suc n)
              same_q =
                  down_q q' a' g ∙ ap (λ m. next_q n A d β τ (λ _. m)) (ih.on_a (par (suc n)) (lower n))
                  ∙ sym (put_at q (suc n) x)

              on_q2 : (k : ℕ) → m ≤ k → k < suc n → q' (suc k) ≡ q2 (suc k)
              on_q2 k b hk =
                  elim (last? k n hk) [
                    | inl l ↦ ih.on_q k b l ∙ sym (q2_low k l)
                    | inr eq ↦ subst (λ j. q' (suc j) ≡ q2 (suc j)) (sym eq) same_q
                  ]

              same_a : a' (suc n) ≡ a2 (suc n)
              same_a =
                  down_a q' a' g
                  ∙ ap (λ m. next_a n A d (λ _. m) (next_q n A d β τ (λ _. m))) (ih.on_a (par (suc n)) (lower n))
                  ∙ sym (put_at a (suc n) _)

              on_a2 : (i : ℕ) → i ≤ suc n → a' i ≡ a2 i
              on_a2 i hi =
                  elim (last? i (suc n) (omega arith)) [
                    | inl l ↦ ih.on_a i (omega arith) ∙ sym (a2_low i (omega arith))
                    | inr eq ↦ subst (λ j. a' j ≡ a2 j) (sym eq) same_a
                  ]

    -- the outward loop
    module _ (a0 : ℕ → Mot) (q : ℕ → Car) where
      unfoldable pub outward : ℕ → ℕ → Mot
      outward zero = a0
      outward (suc n) = put (outward n) (suc n) (moved (suc n) (outward n (par (suc n))) (q (suc n)))

      outward_low : (n i : ℕ) → i ≤ n → outward (suc n) i ≡ outward n i
      unfolding outward
      outward_low n i l = put_off _ (suc n) _ i (λ e. omega arith)

      pub outward_moves : (n : ℕ) → Moves 0 a0 n q (outward n)
      unfolding outward
      outward_moves zero = record { base = λ i l. refl; step = λ k b l. absurd (omega arith) }
      outward_moves (suc n) = go (outward_moves n)
        where
          top : outward (suc n) (suc n) ≡ moved (suc n) (outward (suc n) (par (suc n))) (q (suc n))
          top = put_at _ (suc n) _ ∙ ap (λ x. moved (suc n) x (q (suc n))) (sym (outward_low n (par (suc n)) (lower n)))

          go : Moves 0 a0 n q (outward n) → Moves 0 a0 (suc n) q (outward (suc n))
          go g =
              record {
                base = λ i l. outward_low n i (omega arith) ∙ g.base i l;
                step = λ k b l.
                    elim (last? k n l) [
                      | inl lk ↦
                          outward_low n (suc k) lk ∙ g.step k b lk
                          ∙ ap (λ x. moved (suc k) x (q (suc k))) (sym (outward_low n (par (suc k)) (omega (arith, lower k))))
                      | inr e ↦ subst (λ k. outward (suc n) (suc k) ≡ moved (suc k) (outward (suc n) (par (suc k))) (q (suc k))) (sym e) top
                    ];
              }

    module _ (a0 : ℕ → Mot) where
      unfoldable pub aba : (Car → Option Car) → ℕ → (ℕ → Op) → (ℕ → For) → (ℕ → Car) → Outcome
      aba inv zero A β τ = found (λ _. nil) a0
      aba inv (suc n) A β τ =
          elim (inv (pivot (suc n) (A (suc n)))) [
            | None ↦ refused (suc n)
            | Some d ↦ grow n A d β τ (aba inv n (next_op n A d) (next_bias n A d β τ) τ)
          ]

      abbrev pub Right : (n : ℕ) → (ℕ → Op) → (ℕ → For) → (ℕ → Car) → Outcome → Type 0
      Right n A β τ (refused k) = Fails n A k
      Right n A β τ (found q a) = Unique 0 a0 n A β τ q a

      module _ (n : ℕ) (A : ℕ → Op) (h_a : (i : ℕ) → Inertia (A i)) (d : Car) (e : pivot (suc n) (A (suc n)) ⊗ d ≡ one) (β : ℕ → For) (τ : ℕ → Car) where
        grow_right :
            (o : Outcome) → Right n (next_op n A d) (next_bias n A d β τ) τ o → Right (suc n) A β τ (grow n A d β τ o)
        unfolding grow q2 a2 x
        grow_right (refused k) r = inr (d, e, r)
        grow_right (found q a) r =
            record {
              answers = grown 0 a0 n A h_a d e (omega arith) β τ q a r.answers;
              only = only_grown 0 a0 n A h_a d e (omega arith) β τ q a r.answers r.only;
            }

      pub aba_right :
          (inv : Car → Option Car) → Inverts inv
          → (n : ℕ) (A : ℕ → Op) → ((i : ℕ) → Inertia (A i)) → (β : ℕ → For) (τ : ℕ → Car) → Right n A β τ (aba inv n A β τ)
      unfolding aba
      aba_right inv v zero A h_a β τ =
          record {
            answers = record { moves = record { base = λ i l. refl; step = λ k b l. absurd (omega arith) }; meet = λ k b l. absurd (omega arith) };
            only = λ q' a' g. record { on_a = λ i l. g.moves.base i l; on_q = λ k b l. absurd (omega arith) };
          }
      aba_right inv v (suc n) A h_a β τ =
          go (inv (pivot (suc n) (A (suc n)))) refl
          (λ d. aba_right inv v n (next_op n A d) (next_inertia n A d h_a β τ) (next_bias n A d β τ) τ)
        where
          go :
              (o : Option Car) → inv (pivot (suc n) (A (suc n))) ≡ o
              → ((d : Car) → Right n (next_op n A d) (next_bias n A d β τ) τ (aba inv n (next_op n A d) (next_bias n A d β τ) τ))
              → Right (suc n) A β τ
              (elim o [ None ↦ refused (suc n) | Some d ↦ grow n A d β τ (aba inv n (next_op n A d) (next_bias n A d β τ) τ) ])
          go None e ih = inl (refl, v.complete _ e)
          go (Some d) e ih = grow_right n A h_a d (v.sound _ d e) β τ _ (ih d)

    -- the torques by the mass matrix
    module _ (a0 : ℕ → Mot) where
      open F use {plus_assoc, plus_comm, plus_zer}
      open P use {pair_plus, pair_sc, plus_pair, sc_pair}
      open t use {X'_plus, X'_sc, adjoint}
      open R use {add_assoc, add_comm, add_zero as add_nil, mul_comm}

      -- the pairing of a joint's acceleration with a force
      abbrev Reach : ℕ → (q : ℕ → Car) (a a' : ℕ → Mot) → Type 0
      Reach n q a a' = (p : ℕ) → p ≤ n → (G : For) → pair (a p) G ≡ sum n (λ j. walk n p G j ⊗ q j) ⊕ pair (a' p) G

      module _ (n : ℕ) (q : ℕ → Car) (a a' : ℕ → Mot) (h : Moves 0 a0 (suc n) q a) (h' : Moves 0 a0 (suc n) (λ _. nil) a') (ih : Reach n q a a') where
        rest_step : a' (suc n) ≡ X (suc n) (a' (par (suc n))) +ₘ c (suc n)
        rest_step = h'.step n (omega arith) (omega arith) ∙ simp (M.nil_sc, M.plus_zer)

        reach_top : (G : For) → pair (a (suc n)) G ≡ sum (suc n) (λ j. walk (suc n) (suc n) G j ⊗ q j) ⊕ pair (a' (suc n)) G
        unfolding sum
        reach_top G =
            ap (λ m. pair m G) (h.step n (omega arith) (omega arith))
            ∙ simp (plus_pair, sc_pair, adjoint)
            (ap (λ y. y ⊕ pair (c (suc n)) G ⊕ q (suc n) ⊗ pair (S (suc n)) G) (ih (par (suc n)) (lower n) (X' (suc n) G))
            ∙ shuffle (sum n (λ j. walk n (par (suc n)) (X' (suc n) G) j ⊗ q j)) _ _ _ _
            ∙ ap₂ (λ x y. x ⊕ y ⊗ q (suc n) ⊕ (pair (a' (par (suc n))) (X' (suc n) G) ⊕ pair (c (suc n)) G))
            (sum_cong n _ _ (λ k l. ap (λ y. y ⊗ q (suc k)) (sym (walk_step n G (suc k) l))))
            (sym (walk_here n G))
            ∙ ap (λ y. sum n (λ j. walk (suc n) (suc n) G j ⊗ q j) ⊕ walk (suc n) (suc n) G (suc n) ⊗ q (suc n) ⊕ y)
            (sym (ap (λ m. pair m G) rest_step ∙ simp (plus_pair, adjoint)))
            )
          where
            shuffle : (s y u v w : Car) → s ⊕ y ⊕ u ⊕ v ⊗ w ≡ s ⊕ w ⊗ v ⊕ (y ⊕ u)
            shuffle s y u v w = simp (mul_comm, add_assoc, add_comm, add_left R)

        reach_low :
            (p : ℕ) → p ≤ n → (G : For)
            → pair (a p) G ≡ sum (suc n) (λ j. walk (suc n) p G j ⊗ q j) ⊕ pair (a' p) G
        unfolding sum
        reach_low p l G =
            ih p l G
            ∙ ap (λ y. y ⊕ pair (a' p) G)
            (sum_cong n _ w (λ k _. ap (λ y. y ⊗ q (suc k)) (sym (walk_skip n p G (suc k) l)))
            ∙ sym (ap (λ y. sum n w ⊕ y) (ap (λ y. y ⊗ q (suc n)) (walk_skip n p G (suc n) l ∙ walk_high n p G (suc n) (omega arith)) ∙ nil_mul R (q (suc n))) ∙ add_nil (sum n w)))
          where
            w : ℕ → Car
            w = λ j. walk (suc n) p G j ⊗ q j

      reach : (n : ℕ) (q : ℕ → Car) (a a' : ℕ → Mot) → Moves 0 a0 n q a → Moves 0 a0 n (λ _. nil) a' → Reach n q a a'
      unfolding sum
      reach zero q a a' h h' p l G =
          let z : p ≡ 0 = omega arith in
          rw z (ap (λ m. pair m G) (h.base 0 (omega arith) ∙ sym (h'.base 0 (omega arith))) ∙ sym (nil_add R _))
      reach (suc n) q a a' h h' p l G = go (last? p (suc n) (omega arith)) (reach n q a a' (less h) (less h'))
        where
          less : {q : ℕ → Car} {a : ℕ → Mot} → Moves 0 a0 (suc n) q a → Moves 0 a0 n q a
          less g = record { base = g.base; step = λ k b l. g.step k b (omega arith) }

          go : (p < suc n) ⊎ (p ≡ suc n) → Reach n q a a' → pair (a p) G ≡ sum (suc n) (λ j. walk (suc n) p G j ⊗ q j) ⊕ pair (a' p) G
          go (inl b) ih = reach_low n q a a' h h' ih p (omega arith) G
          go (inr b) ih =
              subst (λ p. pair (a p) G ≡ sum (suc n) (λ j. walk (suc n) p G j ⊗ q j) ⊕ pair (a' p) G) (sym b) (reach_top n q a a' h h' ih G)

      -- the torques are the mass matrix times the accelerations, and the torques at rest
      abbrev Massive : ℕ → (ℕ → Car) → (a a' : ℕ → Mot) → (ℕ → Op) → (ℕ → For) → Type 0
      Massive n q a a' A β =
          (k : ℕ) → k < n → torque n A β a (suc k) ≡ sum n (λ j. mass n A (suc k) j ⊗ q j) ⊕ torque n A β a' (suc k)

      module _ (n : ℕ) (A : ℕ → Op) (h_a : (i : ℕ) → Inertia (A i)) (β : ℕ → For) where
        r : ℕ
        r = par (suc n)

        low_r : r ≤ n
        unfolding r
        low_r = lower n

        U : For
        U = A (suc n) (S (suc n))

        fall : For
        fall = X' (suc n) (A (suc n) (c (suc n)) + β (suc n))

        -- the inward loop's first turn
        first : (q : ℕ → Car) (a : ℕ → Mot) → Moves 0 a0 (suc n) q a
            → inward (suc n) (forces A β a) ≡ inward n (bump F (forces (next_k n A) (bump F β r fall) a) r (X' (suc n) (q (suc n) · U)))
        unfolding inward forces next_k bump_op bump fall U r
        first q a h =
            ap (inward n) (fun_ext λ i.
            ap (λ f. A i (a i) + β i + when F (i == par (suc n)) f)
            (ap (λ m. X' (suc n) (A (suc n) m + β (suc n))) (h.step n (omega arith) (omega arith))
            ∙ simp ((h_a (suc n)).lin_plus, (h_a (suc n)).lin_sc, X'_plus) (regroup _ _ _ _))
            ∙ ap (λ f. A i (a i) + β i + f)
            (when_plus F (i == par (suc n)) _ _ ∙ ap (λ f. f + when F (i == par (suc n)) (X' (suc n) (q (suc n) · A (suc n) (S (suc n)))))
            (when_plus F (i == par (suc n)) _ _ ∙ ap (λ f. f + when F (i == par (suc n)) (X' (suc n) (A (suc n) (c (suc n)) + β (suc n))))
            (sym (when_at F i (par (suc n)) (λ j. X' (suc n) (A (suc n) (X (suc n) (a j))))))))
            ∙ shuffle _ _ _ _ _)
          where
            regroup : (x y z w : For) → x + y + z + w ≡ x + (y + w) + z
            regroup x y z w = simp (plus_assoc, plus_comm)

            shuffle : (x y z w v : For) → x + y + (z + w + v) ≡ x + z + (y + w) + v
            shuffle x y z w v = simp (plus_assoc, plus_comm, plus_left F)

        mass_col : (i : ℕ) → i ≤ n → mass (suc n) A i (suc n) ≡ walk n r (X' (suc n) U) i
        unfolding r U
        mass_col i hi = mass_last n A i hi ∙ walk_step n (A (suc n) (S (suc n))) i hi

        mass_row : (j : ℕ) → mass (suc n) A (suc n) j ≡ walk (suc n) (suc n) U j
        unfolding U
        mass_row j = mass_first n A j

        module _ (q : ℕ → Car) (a a' : ℕ → Mot) (h : Moves 0 a0 (suc n) q a) (h' : Moves 0 a0 (suc n) (λ _. nil) a') where
          massive_low : Massive n q a a' (next_k n A) (bump F β r fall) → (k : ℕ) → k < n
              → torque (suc n) A β a (suc k) ≡ sum (suc n) (λ j. mass (suc n) A (suc k) j ⊗ q j) ⊕ torque (suc n) A β a' (suc k)
          unfolding torque sum
          massive_low ih k l =
              turn q a h
              ∙ ap (λ y. y ⊕ q (suc n) ⊗ w) (ih k l)
              ∙ shuffle (sum n (λ j. mass n (next_k n A) (suc k) j ⊗ q j)) _ (q (suc n)) w
              ∙ ap₂ (λ x y. x ⊕ y ⊗ q (suc n) ⊕ torque n (next_k n A) (bump F β r fall) a' (suc k))
              (sum_cong n _ _ (λ j lj. ap (λ y. y ⊗ q (suc j)) (sym (mass_low n A (suc k) (suc j) l lj))))
              (sym (mass_col (suc k) l))
              ∙ ap (λ y. sum n (λ j. mass (suc n) A (suc k) j ⊗ q j) ⊕ mass (suc n) A (suc k) (suc n) ⊗ q (suc n) ⊕ y)
              (sym (turn (λ _. nil) a' h' ∙ ap (λ y. torque n (next_k n A) (bump F β r fall) a' (suc k) ⊕ y) (nil_mul R w) ∙ add_nil _))
            where
              w : Car
              w = walk n r (X' (suc n) U) (suc k)

              turn : (q : ℕ → Car) (a : ℕ → Mot) → Moves 0 a0 (suc n) q a
                  → torque (suc n) A β a (suc k) ≡ torque n (next_k n A) (bump F β r fall) a (suc k) ⊕ q (suc n) ⊗ w
              turn q a h =
                  ap (λ g. pair (S (suc k)) (g (suc k))) (first q a h)
                  ∙ ap (λ f. pair (S (suc k)) (inward n (bump F (forces (next_k n A) (bump F β r fall) a) r f) (suc k))) (X'_sc (suc n) (q (suc n)) U)
                  ∙ more n r (forces (next_k n A) (bump F β r fall) a) (q (suc n) · X' (suc n) U) (low_r) k l
                  ∙ ap (λ y. torque n (next_k n A) (bump F β r fall) a (suc k) ⊕ y) (walk_sc n r (q (suc n)) (X' (suc n) U) low_r k l)

              shuffle : (s t q w : Car) → s ⊕ t ⊕ q ⊗ w ≡ s ⊕ w ⊗ q ⊕ t
              shuffle s t q w = simp (mul_comm, add_assoc, add_comm)

          top_torque : (a : ℕ → Mot) → torque (suc n) A β a (suc n) ≡ pair (a (suc n)) U ⊕ pair (S (suc n)) (β (suc n))
          unfolding torque forces U
          top_torque a =
              ap (pair (S (suc n))) (untouched (suc n) _ (suc n) (omega arith)) ∙ pair_plus _ _ _
              ∙ ap (λ y. y ⊕ pair (S (suc n)) (β (suc n))) ((h_a (suc n)).symm (S (suc n)) (a (suc n)))

          massive_top : torque (suc n) A β a (suc n) ≡ sum (suc n) (λ j. mass (suc n) A (suc n) j ⊗ q j) ⊕ torque (suc n) A β a' (suc n)
          massive_top =
              top_torque a
              ∙ ap (λ y. y ⊕ pair (S (suc n)) (β (suc n))) (reach (suc n) q a a' h h' (suc n) (omega arith) U)
              ∙ add_assoc _ _ _
              ∙ ap₂ ◌⊕◌ (sum_cong (suc n) _ _ (λ k _. ap (λ y. y ⊗ q (suc k)) (sym (mass_row (suc k))))) (sym (top_torque a'))

        next_k_inertia : (i : ℕ) → Inertia (next_k n A i)
        unfolding next_k
        next_k_inertia =
            bump_inertia A _ _ h_a
            (record {
              lin_plus = λ m m'. simp (t.X_plus, (h_a (suc n)).lin_plus, X'_plus);
              lin_sc = λ s m. simp (t.X_sc, (h_a (suc n)).lin_sc, X'_sc);
              symm = λ m m'. simp (← adjoint, (h_a (suc n)).symm (X (suc n) m) (X (suc n) m'));
            })

      pub massive :
          (n : ℕ) (q : ℕ → Car) (a a' : ℕ → Mot) → Moves 0 a0 n q a → Moves 0 a0 n (λ _. nil) a'
          → (A : ℕ → Op) → ((i : ℕ) → Inertia (A i)) → (β : ℕ → For) → Massive n q a a' A β
      massive zero q a a' h h' A h_a β k l = absurd (omega arith)
      massive (suc n) q a a' h h' A h_a β k l =
          go (last? k n l) (massive n q a a' (fewer 0 a0 h) (fewer 0 a0 h') (next_k n A) (next_k_inertia n A h_a β) (bump F β (r n A h_a β) (fall n A h_a β)))
        where
          go : (k < n) ⊎ (k ≡ n) → Massive n q a a' (next_k n A) (bump F β (r n A h_a β) (fall n A h_a β))
              → torque (suc n) A β a (suc k) ≡ sum (suc n) (λ j. mass (suc n) A (suc k) j ⊗ q j) ⊕ torque (suc n) A β a' (suc k)
          go (inl b) ih = massive_low n A h_a β q a a' h h' ih k b
          go (inr b) ih =
              subst (λ k. torque (suc n) A β a (suc k) ≡ sum (suc n) (λ j. mass (suc n) A (suc k) j ⊗ q j) ⊕ torque (suc n) A β a' (suc k))
              (sym b) (massive_top n A h_a β q a a' h h')

  -- i is j or stands above it
  pub data Desc (j : ℕ) : ℕ → Type 0 where
    here : {i : ℕ} → i ≡ j → Desc j i
    there : {i : ℕ} (k : ℕ) → i ≡ suc k → Desc j (par (suc k)) → Desc j i

  desc_le : (j i : ℕ) → Desc j i → j ≤ i
  desc_le j i (here e) = omega arith
  desc_le j i (there k e d) = let r = desc_le j (par (suc k)) d in let l = lower k in omega arith

  desc_trans : (j l i : ℕ) → Desc j l → Desc l i → Desc j i
  desc_trans j l i d (here e) = subst (Desc j) (sym e) d
  desc_trans j l i d (there k e d') = there k e (desc_trans j l (par (suc k)) d d')

  -- of two on one way, the lower is below the other
  desc_chain : (j i l : ℕ) → Desc i l → Desc j l → j ≤ i → Desc j i
  desc_chain j i l (here e) d b = subst (Desc j) e d
  desc_chain j i l (there k e d') d b = go d (λ x. desc_chain j i (par (suc k)) d' x b)
    where
      go : Desc j l → (Desc j (par (suc k)) → Desc j i) → Desc j i
      go (here f) ih = let r = desc_le i (par (suc k)) d' in let g = lower k in absurd (omega arith)
      go (there k' f d'') ih = let z : k' ≡ k = omega arith in ih (subst (λ k. Desc j (par (suc k))) z d'')

  not_desc : (j i : ℕ) → (i ≢ j) → ((k : ℕ) → i ≡ suc k → Desc j (par (suc k)) → ⊥) → Desc j i → ⊥
  not_desc j i f g (here e) = f e
  not_desc j i f g (there k e d) = g k e d

  desc? : (n j i : ℕ) → i ≤ n → Dec (Desc j i)
  desc? zero j i l = go (i == j) (same? i j)
    where
      go : (b : Bool) → Same i j b → Dec (Desc j i)
      go true (same e) = yes (here e)
      go false (apart f) = no (not_desc j i f (λ k e d. omega arith))
  desc? (suc n) j i l = go (i == j) (same? i j) (λ k e. desc? n j (par (suc k)) (let g = lower k in omega arith))
    where
      up : (f : i ≡ j → ⊥) (i' : ℕ) → i ≡ i' → ((k : ℕ) → i ≡ suc k → Dec (Desc j (par (suc k)))) → Dec (Desc j i)
      up f zero e ih = no (not_desc j i f (λ k e' d. omega arith))
      up f (suc k) e ih = ask (ih k e)
        where
          ask : Dec (Desc j (par (suc k))) → Dec (Desc j i)
          ask (yes d) = yes (there k e d)
          ask (no g) = no (not_desc j i f (λ k' e' d. let z : k' ≡ k = omega arith in g (subst (λ k. Desc j (par (suc k))) z d)))

      go : (b : Bool) → Same i j b → ((k : ℕ) → i ≡ suc k → Dec (Desc j (par (suc k)))) → Dec (Desc j i)
      go true (same e) ih = yes (here e)
      go false (apart f) ih = up f i refl ih

  -- a force is felt only on the way to the base
  walk_off : (n p : ℕ) (G : For) (i : ℕ) → p ≤ n → (Desc i p → ⊥) → walk n p G i ≡ nil
  walk_off zero p G i l f = walk_zero p G i
    where
      walk_zero : (p : ℕ) (G : For) (i : ℕ) → walk zero p G i ≡ nil
      walk_zero p G i = unfold walk in refl
  walk_off (suc n) p G i l f = go (last? p (suc n) (omega arith)) (walk_off n)
    where
      go :
          (p < suc n) ⊎ (p ≡ suc n) → ((p : ℕ) (G : For) (i : ℕ) → p ≤ n → (Desc i p → ⊥) → walk n p G i ≡ nil)
          → walk (suc n) p G i ≡ nil
      go (inl b) ih = walk_skip n p G i (omega arith) ∙ ih p G i (omega arith) f
      go (inr e) ih =
          subst (λ p. walk (suc n) p G i ≡ nil) (sym e)
          (walk_else n G i (λ z. f (here (e ∙ sym z))) ∙ ih (par (suc n)) (X' (suc n) G) i (lower n) (λ d. f (there n e d)))

  -- joints of which neither stands on the other do not feel each other
  pub mass_off : (n : ℕ) (A : ℕ → Op) (i l : ℕ) → i ≤ n → l ≤ n → (Desc i l → ⊥) → (Desc l i → ⊥) → mass n A i l ≡ nil
  mass_off zero A i l hi hl f g = unfold mass in refl
  mass_off (suc n) A i l hi hl f g = go (last? i (suc n) (omega arith)) (last? l (suc n) (omega arith)) (mass_off n)
    where
      U : For
      U = A (suc n) (S (suc n))

      go :
          (i < suc n) ⊎ (i ≡ suc n) → (l < suc n) ⊎ (l ≡ suc n)
          → ((A : ℕ → Op) (i l : ℕ) → i ≤ n → l ≤ n → (Desc i l → ⊥) → (Desc l i → ⊥) → mass n A i l ≡ nil)
          → mass (suc n) A i l ≡ nil
      go (inr e) _ ih =
          subst (λ i. mass (suc n) A i l ≡ nil) (sym e)
          (mass_first n A l ∙ walk_off (suc n) (suc n) U l (omega arith) (λ d. g (subst (Desc l) (sym e) d)))
      go (inl b) (inr e) ih =
          subst (λ l. mass (suc n) A i l ≡ nil) (sym e)
          (mass_last n A i (omega arith) ∙ walk_off (suc n) (suc n) U i (omega arith) (λ d. f (subst (Desc i) (sym e) d)))
      go (inl b) (inl b') ih = mass_low n A i l (omega arith) (omega arith) ∙ ih (next_k n A) i l (omega arith) (omega arith) f g

  -- a column of accelerations of the branch of j, at which the branch matrix gives y
  pub record Reaches (n : ℕ) (A : ℕ → Op) (j : ℕ) (y : ℕ → Car) : Type 0 where
    pub by : ℕ → Car
    pub off : (i : ℕ) → (Desc j i → ⊥) → by i ≡ nil
    pub gives : (k : ℕ) → k < n → Desc j (suc k) → sum n (λ l. mass n A (suc k) l ⊗ by l) ≡ y (suc k)

  -- from here on all is at rest: no c, no base acceleration, no bias
  abbrev pub still : ℕ → Mot
  still _ = M.zer

  abbrev pub none_f : ℕ → For
  none_f _ = zer

  X_zer : (k : ℕ) → X k M.zer ≡ M.zer
  X_zer k = ap (X k) (sym (M.nil_sc M.zer)) ∙ t.X_sc k nil M.zer ∙ M.nil_sc _

  X'_zer : (k : ℕ) → X' k zer ≡ zer
  X'_zer k = ap (X' k) (sym (F.nil_sc zer)) ∙ t.X'_sc k nil zer ∙ F.nil_sc _

  pair_zer : (m : Mot) → pair m zer ≡ nil
  pair_zer m = ap (pair m) (sym (F.nil_sc zer)) ∙ P.pair_sc m nil zer ∙ nil_mul R _

  zer_pair : (f : For) → pair M.zer f ≡ nil
  zer_pair f = ap (λ m. pair m f) (sym (M.nil_sc M.zer)) ∙ P.sc_pair nil M.zer f ∙ nil_mul R _

  op_zer : (A : Op) → Inertia A → A M.zer ≡ zer
  op_zer A h = ap A (sym (M.nil_sc M.zer)) ∙ h.lin_sc nil M.zer ∙ F.nil_sc _

  sum_nil : (n : ℕ) (g : ℕ → Car) → ((k : ℕ) → k < n → g (suc k) ≡ nil) → sum n g ≡ nil
  unfolding sum
  sum_nil zero g h = refl
  sum_nil (suc n) g h = ap₂ ◌⊕◌ (sum_nil n g (λ k l. h k (omega arith))) (h n (omega arith)) ∙ R.add_zero nil

  inward_zer : (n : ℕ) (f : ℕ → For) → ((i : ℕ) → f i ≡ zer) → (i : ℕ) → inward n f i ≡ zer
  unfolding inward bump
  inward_zer zero f h i = h i
  inward_zer (suc n) f h i = inward_zer n _ (λ k. simp (bump, h k, h (suc n), X'_zer) (zer_plus F _ ∙ when_zer (k == par (suc n)))) i
    where
      when_zer : (b : Bool) → when F b zer ≡ zer
      when_zer true = refl
      when_zer false = refl

  module _ (n : ℕ) (A : ℕ → Op) (h_a : (i : ℕ) → Inertia (A i)) where
    -- without c, base acceleration and bias the torques are the mass matrix times the accelerations
    pure :
        (q : ℕ → Car) (a : ℕ → Mot) → Moves still 0 still n q a → (k : ℕ) → k < n
        → torque n A none_f a (suc k) ≡ sum n (λ l. mass n A (suc k) l ⊗ q l)
    unfolding torque forces
    pure q a h k l =
        massive still still n q a still h rest A h_a none_f k l
        ∙ ap (λ y. sum n (λ l. mass n A (suc k) l ⊗ q l) ⊕ y) at_rest ∙ R.add_zero _
      where
        rest : Moves still 0 still n (λ _. nil) still
        rest = record { base = λ i l. refl; step = λ k b l. sym (simp (X_zer, M.nil_sc, M.plus_zer)) }

        at_rest : torque n A none_f still (suc k) ≡ nil
        at_rest =
            ap (pair (S (suc k))) (inward_zer n _ (λ i. ap (λ f. f + zer) (op_zer (A i) (h_a i)) ∙ F.plus_zer zer) (suc k)) ∙ pair_zer _

  module _ (n : ℕ) (A : ℕ → Op) (h_a : (i : ℕ) → Inertia (A i)) (d : Car) (β : ℕ → For) (τ : ℕ → Car) where
    no_bias : ((i : ℕ) → β i ≡ zer) → τ (suc n) ≡ nil → (i : ℕ) → next_bias still n A d β τ i ≡ zer
    unfolding next_bias bump handed left
    no_bias hβ hτ i =
        ap₂ (λ x y. x + when F (i == par (suc n)) y) (hβ i) hand ∙ zer_plus F _ ∙ when_zer (i == par (suc n))
      where
        when_zer : (b : Bool) → when F b zer ≡ zer
        when_zer true = refl
        when_zer false = refl

        hand : handed still (suc n) (A (suc n)) d (β (suc n)) (τ (suc n)) ≡ zer
        hand =
            simp (handed, left, hβ (suc n), hτ, op_zer (A (suc n)) (h_a (suc n)), zer_pair, pair_zer, neg_nil R, R.add_zero, mul_nil R, F.nil_sc, F.plus_zer, X'_zer)

  stuck_top :
      (n : ℕ) (A : ℕ → Op) → ((i : ℕ) → Inertia (A i)) → (β : ℕ → For) (q : ℕ → Car) (a : ℕ → Mot)
      → a (par (suc n)) ≡ M.zer → β (suc n) ≡ zer
      → pair (S (suc n)) (A (suc n) (moved still (suc n) (a (par (suc n))) (q (suc n))) + β (suc n)) ≡ q (suc n) ⊗ pivot (suc n) (A (suc n))
  stuck_top n A h_a β q a ha hb =
      simp (moved, ha, hb, X_zer, M.plus_zer, zer_plus M, (h_a (suc n)).lin_sc, F.plus_zer, P.pair_sc)

  stuck :
      (n : ℕ) (A : ℕ → Op) → ((i : ℕ) → Inertia (A i)) → (β : ℕ → For) (τ q : ℕ → Car) (a : ℕ → Mot) (j : ℕ)
      → Fails n A (suc j) → Answers still j still n A β τ q a → ((i : ℕ) → β i ≡ zer)
      → ((k : ℕ) → suc j ≤ k → k < n → τ (suc k) ≡ nil) → τ (suc j) ≢ one
  unfolding torque forces
  stuck zero A h_a β τ q a j f g hβ hτ h1 = f
  stuck (suc n) A h_a β τ q a j (inl f) g hβ hτ h1 =
      let z : j ≡ n = (let e = f.0 in omega arith) in
      f.1 (q (suc n))
      (R.mul_comm _ _
      ∙ sym (stuck_top n A h_a β q a (g.moves.base (par (suc n)) (let l = lower n in omega arith)) (hβ (suc n)))
      ∙ ap (λ m. pair (S (suc n)) (A (suc n) m + β (suc n))) (sym (g.moves.step n (omega arith) (omega arith)))
      ∙ ap (pair (S (suc n))) (sym (untouched (suc n) (forces A β a) (suc n) (omega arith)))
      ∙ g.meet n (omega arith) (omega arith)
      ∙ subst (λ k. τ (suc k) ≡ one) z h1)
  stuck (suc n) A h_a β τ q a j (inr f) g hβ hτ h1 =
      let b : suc j ≤ n = (fails_bound n _ (suc j) f.2).1 in
      stuck n (next_op n A f.0) (next_inertia n A f.0 h_a β τ) (next_bias still n A f.0 β τ) τ q a j f.2
      (down still j still n A h_a f.0 f.1 (omega arith) β τ q a g)
      (no_bias n A h_a f.0 β τ hβ (hτ n b (omega arith)))
      (λ k x y. hτ k x (omega arith)) h1

  -- what stands below the first joint that moves is at rest
  rest_low :
      (n : ℕ) (q : ℕ → Car) (a : ℕ → Mot) (j : ℕ) → Moves still 0 still n q a → j ≤ n → ((i : ℕ) → i ≤ j → q i ≡ nil)
      → (b i : ℕ) → i ≤ b → i ≤ j → a i ≡ M.zer
  rest_low n q a j h jn hq zero i lb lj = h.base i lb
  rest_low n q a j h jn hq (suc b) zero lb lj = h.base 0 (omega arith)
  rest_low n q a j h jn hq (suc b) (suc k) lb lj =
      let l = lower k in
      let e : a (par (suc k)) ≡ M.zer = rest_low n q a j h jn hq b (par (suc k)) (omega arith) (omega arith) in
      h.step k (omega arith) (omega arith) ∙ simp (e, hq (suc k) lj, X_zer, M.nil_sc, M.plus_zer)

  pub unit_at : ℕ → ℕ → Car
  unit_at j = put (λ _. nil) j one

  desc! : (j i : ℕ) → Dec (Desc j i)
  desc! j i = desc? i j i (omega arith)

  -- two joints at or above j, of which one is in the branch of j and the other is not
  apart_nil :
      (n : ℕ) (A : ℕ → Op) (j i l : ℕ) → i ≤ n → l ≤ n → j ≤ i → j ≤ l → Desc j l → (Desc j i → ⊥) → mass n A i l ≡ nil
  apart_nil n A j i l hi hl ji jl d f =
      mass_off n A i l hi hl (λ x. f (desc_chain j i l x d ji)) (λ x. f (desc_trans j l i d x))

  -- at the highest joint without a unit pivot, the branch matrix does not reach the unit
  pub not_onto :
      (n : ℕ) (A : ℕ → Op) → ((i : ℕ) → Inertia (A i)) → (j : ℕ) → Fails n A (suc j) → Reaches n A (suc j) (unit_at (suc j)) → ⊥
  unfolding unit_at
  not_onto n A h_a j f r =
      stuck n A h_a none_f τ q a j f
      (record { moves = record { base = λ i l. low i l; step = λ k b l. mv.step k (omega arith) l }; meet = λ k b l. refl })
      (λ i. refl) above one_here
    where
      q : ℕ → Car
      q = r.by

      a : ℕ → Mot
      a = outward still still q n

      mv : Moves still 0 still n q a
      mv = outward_moves still still q n

      τ : ℕ → Car
      τ = torque n A none_f a

      jn : suc j ≤ n
      jn = (fails_bound n A (suc j) f).1

      low : (i : ℕ) → i ≤ j → a i ≡ M.zer
      low i l =
          rest_low n q a j mv (omega (arith, jn))
          (λ i l. r.off i (λ d. let x = desc_le (suc j) i d in omega arith)) i i (omega arith) l

      one_here : τ (suc j) ≡ one
      one_here = pure n A h_a q a mv j jn ∙ r.gives j jn (here refl) ∙ put_at _ (suc j) one

      above : (k : ℕ) → suc j ≤ k → k < n → τ (suc k) ≡ nil
      above k b l = pure n A h_a q a mv k l ∙ go (desc! (suc j) (suc k))
        where
          go : Dec (Desc (suc j) (suc k)) → sum n (λ i. mass n A (suc k) i ⊗ q i) ≡ nil
          go (yes d) = r.gives k l d ∙ put_off _ (suc j) one (suc k) (λ e. omega arith)
          go (no g) = sum_nil n _ (λ i li. part i li (desc! (suc j) (suc i)))
            where
              part : (i : ℕ) → i < n → Dec (Desc (suc j) (suc i)) → mass n A (suc k) (suc i) ⊗ q (suc i) ≡ nil
              part i li (yes d) =
                  let x = desc_le (suc j) (suc i) d in
                  ap (λ y. y ⊗ q (suc i)) (apart_nil n A (suc j) (suc k) (suc i) l li (omega arith) x d g) ∙ nil_mul R _
              part i li (no g') = ap (λ y. mass n A (suc k) (suc i) ⊗ y) (r.off (suc i) g') ∙ mul_nil R _

  exists :
      (n : ℕ) (A : ℕ → Op) → ((i : ℕ) → Inertia (A i)) → (m : ℕ) → Units m n A → m ≤ n → (β : ℕ → For) (τ : ℕ → Car)
      → (q : ℕ → Car) × (a : ℕ → Mot) × Answers still m still n A β τ q a × ((i : ℕ) → i ≤ m → q i ≡ nil)
  unfolding q2
  exists zero A h_a m u l β τ = (
    (λ _. nil),
    still,
    record { moves = record { base = λ i l. refl; step = λ k b l. absurd (omega arith) }; meet = λ k b l. absurd (omega arith) },
    λ i l. refl,
  )
  exists (suc n) A h_a m u l β τ =
      go (last? m (suc n) (omega arith))
      (λ b. exists n (next_op n A (u b).0) (next_inertia n A (u b).0 h_a β τ) m (u b).2 b (next_bias still n A (u b).0 β τ) τ)
    where
      Sol : (n : ℕ) (A : ℕ → Op) (β : ℕ → For) → Type 0
      Sol n A β = (q : ℕ → Car) × (a : ℕ → Mot) × Answers still m still n A β τ q a × ((i : ℕ) → i ≤ m → q i ≡ nil)

      go : (m < suc n) ⊎ (m ≡ suc n) → ((b : m ≤ n) → Sol n (next_op n A (u b).0) (next_bias still n A (u b).0 β τ)) → Sol (suc n) A β
      go (inr e) ih = (
        (λ _. nil),
        still,
        record { moves = record { base = λ i l. refl; step = λ k b l. absurd (omega arith) }; meet = λ k b l. absurd (omega arith) },
        λ i l. refl,
      )
      go (inl x) ih =
          let b : m ≤ n = omega arith in
          let (q, a, h, z) = ih b in (
            q2 still m still n A h_a (u b).0 (u b).1 b β τ q a h,
            a2 still m still n A h_a (u b).0 (u b).1 b β τ q a h,
            grown still m still n A h_a (u b).0 (u b).1 b β τ q a h,
            λ i li. put_off q (suc n) _ i (λ e. omega arith) ∙ z i li,
          )

  -- a joint above which, itself included, all pivots are units: its branch matrix is onto
  pub onto :
      (n : ℕ) (A : ℕ → Op) → ((i : ℕ) → Inertia (A i)) → (m : ℕ) → Units m n A → m < n → (y : ℕ → Car) → Reaches n A (suc m) y
  onto n A h_a m u l y = with_sol (exists n A h_a m u (omega arith) none_f y)
    where
      with_sol :
          (q : ℕ → Car) × (a : ℕ → Mot) × Answers still m still n A none_f y q a × ((i : ℕ) → i ≤ m → q i ≡ nil)
          → Reaches n A (suc m) y
      with_sol (q, a, h, z) = record { by = λ i. cut i (desc! (suc m) i); off = λ i f. cut_off i f (desc! (suc m) i); gives = gives' }
        where
          cut : (i : ℕ) → Dec (Desc (suc m) i) → Car
          cut i (yes _) = q i
          cut i (no _) = nil

          cut_off : (i : ℕ) → (Desc (suc m) i → ⊥) → (o : Dec (Desc (suc m) i)) → cut i o ≡ nil
          cut_off i f (yes d) = absurd (f d)
          cut_off i f (no _) = refl

          mv : Moves still 0 still n q a
          mv = record { base = λ i b. h.moves.base i (omega arith); step = λ k _ lk. go k lk (dec_le m k) }
            where
              go : (k : ℕ) → k < n → Dec (m ≤ k) → a (suc k) ≡ moved still (suc k) (a (par (suc k))) (q (suc k))
              go k lk (yes b) = h.moves.step k b lk
              go k lk (no f) =
                  h.moves.base (suc k) (omega arith)
                  ∙ sym (simp (moved, h.moves.base (par (suc k)) (omega (arith, lower k)), z (suc k) (omega arith), X_zer, M.nil_sc, M.plus_zer))

          gives' :
              (k : ℕ) → k < n → Desc (suc m) (suc k)
              → sum n (λ i. mass n A (suc k) i ⊗ cut i (desc! (suc m) i)) ≡ y (suc k)
          gives' k lk d =
              sum_cong n _ _ (λ i li. part i li (desc! (suc m) (suc i)) (dec_le m i))
              ∙ sym (pure n A h_a q a mv k lk)
              ∙ h.meet k (let x = desc_le (suc m) (suc k) d in omega arith) lk
            where
              part :
                  (i : ℕ) → i < n → (o : Dec (Desc (suc m) (suc i))) → Dec (m ≤ i)
                  → mass n A (suc k) (suc i) ⊗ cut (suc i) o ≡ mass n A (suc k) (suc i) ⊗ q (suc i)
              part i li (yes _) _ = refl
              part i li (no f) (no g) = ap (λ x. mass n A (suc k) (suc i) ⊗ x) (sym (z (suc i) (omega arith)))
              part i li (no f) (yes b) =
                  mul_nil R _ ∙ sym (nil_mul R (q (suc i)))
                  ∙ ap (λ x. x ⊗ q (suc i))
                  (sym (mass_symmetric n A (suc k) (suc i)
                  ∙ apart_nil n A (suc m) (suc i) (suc k) li lk (omega arith) (let x = desc_le (suc m) (suc k) d in x) d f))
