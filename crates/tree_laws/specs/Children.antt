-- The inward loop in the subject's words: a joint's force is its own and what its children carry.
use Rattle.std.specs.Prelude.{◌≡◌, ℕ, zero, suc, ◌==◌}
use Rattle.std.proofs.Math.Path.{sym, ap}
use Rattle.std.proofs.Common.{◌∙◌, arith}
use Rattle.ring.specs.CommRing.{CommRing}
use Rattle.tree_laws.specs.Space.{Module, Pairing}
use Rattle.tree_laws.specs.Tree.{Tree, bump, when, inward, untouched}

module _ {Car Mot For : Type 0} (R : CommRing Car) (M : Module Car R Mot) (F : Module Car R For) (P : Pairing Car Mot For R M F) (t : Tree Car Mot For R M F P) where
  open F use {plus as ◌+◌, zer, plus_zer, plus_assoc, plus_comm}

  infixl 60 ◌+◌
  -- what the children of i among the joints 1..n carry to it
  unfoldable pub children : ℕ → ℕ → (ℕ → For) → For
  children zero i g = zer
  children (suc n) i g = children n i g + when F (i == t.par (suc n)) (t.X' (suc n) (g (suc n)))

  pub by_children : (n : ℕ) (f : ℕ → For) (i : ℕ) → inward R M F P t n f i ≡ f i + children n i (inward R M F P t n f)
  unfolding children inward bump
  by_children zero f i = sym (plus_zer (f i))
  by_children (suc n) f i =
      by_children n _ i
      ∙ swap (f i) w (children n i (inward R M F P t (suc n) f))
      ∙ ap (λ y. f i + (children n i (inward R M F P t (suc n) f) + when F (i == t.par (suc n)) (t.X' (suc n) y)))
      (sym (untouched R M F P t (suc n) f (suc n) (omega arith)))
    where
      w : For
      w = when F (i == t.par (suc n)) (t.X' (suc n) (f (suc n)))

      swap : (x y z : For) → x + y + z ≡ x + (z + y)
      swap x y z = simp (plus_assoc, plus_comm)
