-- The statements.
use Rattle.std.specs.Prelude.{◌≡◌, ℕ, zero, suc, ◌<◌, ◌≤◌, Option}
use Rattle.std.proofs.Common.{subst, arith}
use Rattle.ring.specs.CommRing.{CommRing}
use Rattle.tree_laws.specs.Space.{Module, Pairing}
use Rattle.tree_laws.specs.Tree.{Tree, Inertia, Inverts, Right, refused, Fails, fails_bound, fails_units, Reaches, unit_at, not_onto, onto, aba, aba_right, Moves, torque, sum, mass, massive, mass_symmetric, outward}
use Rattle.tree_laws.specs.Natural.{Map, Related, aba_nat, torque_nat, outward_nat, mass_nat}

module _ (Car Mot For : Type 0) where
  abbrev pub Over : ((R : CommRing Car) (M : Module Car R Mot) (F : Module Car R For) (P : Pairing Car Mot For R M F) (t : Tree Car Mot For R M F P) → Type 0) → Type 0
  Over Q = (R : CommRing Car) (M : Module Car R Mot) (F : Module Car R For) (P : Pairing Car Mot For R M F) (t : Tree Car Mot For R M F P) → Q R M F P t

  abbrev pub AbaIsRight : Type 0
  AbaIsRight =
      Over λ R M F P t.
      (inv : Car → Option Car) → Inverts R M F P t inv
      → (n : ℕ) (A : ℕ → Mot → For) → ((i : ℕ) → Inertia R M F P t (A i))
      → (c a0 : ℕ → Mot) (β : ℕ → For) (τ : ℕ → Car) → Right R M F P t c a0 n A β τ (aba R M F P t c a0 inv n A β τ)

  pub aba_is_right : AbaIsRight
  aba_is_right R M F P t inv v n A h_a c a0 = aba_right R M F P t c a0 inv v n A h_a

  abbrev pub MassIsRight : Type 0
  MassIsRight =
      Over λ R M F P t.
      (n : ℕ) (A : ℕ → Mot → For) → ((i : ℕ) → Inertia R M F P t (A i))
      → (c a0 : ℕ → Mot) (β : ℕ → For) (q : ℕ → Car) (a a' : ℕ → Mot)
      → Moves R M F P t c 0 a0 n q a → Moves R M F P t c 0 a0 n (λ _. R.zero) a'
      → (k : ℕ) → k < n
      → torque R M F P t n A β a (suc k)
      ≡ R.add (sum R M F P t n (λ j. R.mul (mass R M F P t n A (suc k) j) (q j))) (torque R M F P t n A β a' (suc k))

  pub mass_is_right : MassIsRight
  mass_is_right R M F P t n A h_a c a0 β q a a' h h' = massive R M F P t c a0 n q a a' h h' A h_a β

  abbrev pub MassIsSymmetric : Type 0
  MassIsSymmetric =
      Over λ R M F P t. (n : ℕ) (A : ℕ → Mot → For) (i j : ℕ) → mass R M F P t n A i j ≡ mass R M F P t n A j i

  pub mass_is_symmetric : MassIsSymmetric
  mass_is_symmetric R M F P t = mass_symmetric R M F P t

  abbrev pub RefusalIsRight : Type 0
  RefusalIsRight =
      Over λ R M F P t.
      (inv : Car → Option Car) → Inverts R M F P t inv
      → (n : ℕ) (A : ℕ → Mot → For) → ((i : ℕ) → Inertia R M F P t (A i))
      → (c a0 : ℕ → Mot) (β : ℕ → For) (τ : ℕ → Car) (j : ℕ) → aba R M F P t c a0 inv n A β τ ≡ refused j
      → (Reaches R M F P t n A j (unit_at R M F P t j) → ⊥)
      × ((k : ℕ) → j < k → k ≤ n → (y : ℕ → Car) → Reaches R M F P t n A k y)

  refuse :
      (R : CommRing Car) (M : Module Car R Mot) (F : Module Car R For) (P : Pairing Car Mot For R M F) (t : Tree Car Mot For R M F P)
      (n : ℕ) (A : ℕ → Mot → For) → ((i : ℕ) → Inertia R M F P t (A i)) → (j : ℕ) → Fails R M F P t n A j
      → (Reaches R M F P t n A j (unit_at R M F P t j) → ⊥)
      × ((k : ℕ) → j < k → k ≤ n → (y : ℕ → Car) → Reaches R M F P t n A k y)
  refuse R M F P t n A h_a zero f = absurd (let b = fails_bound R M F P t n A zero f in omega arith)
  refuse R M F P t n A h_a (suc j) f = (not_onto R M F P t n A h_a j f, above)
    where
      above : (k : ℕ) → suc j < k → k ≤ n → (y : ℕ → Car) → Reaches R M F P t n A k y
      above zero a b y = absurd (omega arith)
      above (suc m) a b y = onto R M F P t n A h_a m (fails_units R M F P t n A (suc j) m f (omega arith)) b y

  pub refusal_is_right : RefusalIsRight
  refusal_is_right R M F P t inv v n A h_a c a0 β τ j e =
      refuse R M F P t n A h_a j (subst (Right R M F P t c a0 n A β τ) e (aba_right R M F P t c a0 inv v n A h_a β τ))

module _ (Car Mot For Car' Mot' For' : Type 0) where
  -- related tables of a problem, over two rings
  pub record Twins
      (R : CommRing Car) (M : Module Car R Mot) (F : Module Car R For) (P : Pairing Car Mot For R M F) (t : Tree Car Mot For R M F P)
      (R' : CommRing Car') (M' : Module Car' R' Mot') (F' : Module Car' R' For') (P' : Pairing Car' Mot' For' R' M' F') (t' : Tree Car' Mot' For' R' M' F' P')
      (h : Map Car Mot For R M F P t Car' Mot' For' R' M' F' P' t')
      (A : ℕ → Mot → For) (A' : ℕ → Mot' → For') (c a0 : ℕ → Mot) (c' a0' : ℕ → Mot') (β : ℕ → For) (β' : ℕ → For') : Type 0 where
    pub e_a : (i : ℕ) (m : Mot) → h.ψ (A i m) ≡ A' i (h.μ m)
    pub ec : (i : ℕ) → h.μ (c i) ≡ c' i
    pub e0 : (i : ℕ) → h.μ (a0 i) ≡ a0' i
    pub eβ : (i : ℕ) → h.ψ (β i) ≡ β' i

  abbrev pub AllNatural : Type 0
  AllNatural =
      (R : CommRing Car) (M : Module Car R Mot) (F : Module Car R For) (P : Pairing Car Mot For R M F) (t : Tree Car Mot For R M F P)
      (R' : CommRing Car') (M' : Module Car' R' Mot') (F' : Module Car' R' For') (P' : Pairing Car' Mot' For' R' M' F') (t' : Tree Car' Mot' For' R' M' F' P')
      (h : Map Car Mot For R M F P t Car' Mot' For' R' M' F' P' t')
      (A : ℕ → Mot → For) (A' : ℕ → Mot' → For') (c a0 : ℕ → Mot) (c' a0' : ℕ → Mot') (β : ℕ → For) (β' : ℕ → For')
      (w : Twins R M F P t R' M' F' P' t' h A A' c a0 c' a0' β β') (n : ℕ)
      → ((q : ℕ → Car) (q' : ℕ → Car') → ((i : ℕ) → h.φ (q i) ≡ q' i) → (i : ℕ)
      → h.φ (torque R M F P t n A β (outward R M F P t c a0 q n) i) ≡ torque R' M' F' P' t' n A' β' (outward R' M' F' P' t' c' a0' q' n) i)
      × ((i j : ℕ) → h.φ (mass R M F P t n A i j) ≡ mass R' M' F' P' t' n A' i j)
      × ((inv : Car → Option Car) → Inverts R M F P t inv → (inv' : Car' → Option Car') → Inverts R' M' F' P' t' inv'
      → (τ : ℕ → Car) (τ' : ℕ → Car') → ((i : ℕ) → h.φ (τ i) ≡ τ' i)
      → Related R M F P t R' M' F' P' t' h c c' w.ec a0 a0' w.e0 (aba R M F P t c a0 inv n A β τ) (aba R' M' F' P' t' c' a0' inv' n A' β' τ'))

  pub all_natural : AllNatural
  all_natural R M F P t R' M' F' P' t' h A A' c a0 c' a0' β β' w n = (
    (λ q q' eq. torque_nat R M F P t R' M' F' P' t' h A A' w.e_a n β β' w.eβ _ _ (outward_nat R M F P t R' M' F' P' t' h c c' w.ec a0 a0' w.e0 q q' eq n)),
    mass_nat R M F P t R' M' F' P' t' h n A A' w.e_a,
    λ inv v inv' v' τ τ' eτ. aba_nat R M F P t R' M' F' P' t' h c c' w.ec a0 a0' w.e0 inv v inv' v' τ τ' eτ n A A' w.e_a β β' w.eβ,
  )
