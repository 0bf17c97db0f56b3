-- Where accelerations are found, every pivot is a unit.
use Rattle.std.specs.Prelude.{◌≡◌, ℕ, zero, suc, Some, None, Option}
use Rattle.std.proofs.Math.Path.{refl}
use Rattle.ring.specs.CommRing.{CommRing}
use Rattle.tree_laws.specs.Space.{Module, Pairing}
use Rattle.tree_laws.specs.Tree.{Tree, Inverts, Outcome, refused, found, aba, grow, pivot, next_op, next_bias, Units}

module _ {Car Mot For : Type 0} (R : CommRing Car) (M : Module Car R Mot) (F : Module Car R For) (P : Pairing Car Mot For R M F) (t : Tree Car Mot For R M F P)
    (c a0 : ℕ → Mot) (inv : Car → Option Car) (v : Inverts R M F P t inv) (τ : ℕ → Car) where
  abbrev pub Good : Outcome R M F P t → Type 0
  Good (refused k) = ⊥
  Good (found q a) = Unit {0}

  still_good : (n : ℕ) (A : ℕ → Mot → For) (d : Car) (β : ℕ → For) (o : Outcome R M F P t) → Good (grow R M F P t c n A d β τ o) → Good o
  unfolding grow
  still_good n A d β (refused k) g = g
  still_good n A d β (found q a) g = tt

  pub found_units : (n : ℕ) (A : ℕ → Mot → For) (β : ℕ → For) → Good (aba R M F P t c a0 inv n A β τ) → (m : ℕ) → Units R M F P t m n A
  unfolding aba
  found_units zero A β g m = tt
  found_units (suc n) A β g m = λ l. go (inv (pivot R M F P t (suc n) (A (suc n)))) refl (λ d. found_units n (next_op R M F P t n A d) (next_bias R M F P t c n A d β τ)) g
    where
      go :
          (o : Option Car) → inv (pivot R M F P t (suc n) (A (suc n))) ≡ o
          → ((d : Car) → Good (aba R M F P t c a0 inv n (next_op R M F P t n A d) (next_bias R M F P t c n A d β τ) τ) → (m : ℕ) → Units R M F P t m n (next_op R M F P t n A d))
          → Good (elim o [ None ↦ refused (suc n) | Some d ↦ grow R M F P t c n A d β τ (aba R M F P t c a0 inv n (next_op R M F P t n A d) (next_bias R M F P t c n A d β τ) τ) ])
          → (d : Car) × (R.mul (pivot R M F P t (suc n) (A (suc n))) d ≡ R.one) × Units R M F P t m n (next_op R M F P t n A d)
      go None e ih g = absurd g
      go (Some d) e ih g = (d, v.sound _ d e, ih d (still_good n A d β _ g) m)
