-- Sums of one dual number with itself.
use Rattle.std.proofs.Common.{◌≡◌, ℕ, zero, suc, refl, ap, ◌∙◌}
use Rattle.ring.specs.CommRing.{CommRing}
use Rattle.ring.specs.Whole.{copies}
use Rattle.dual.specs.DualNumbers.{dual, duals, dual_eq}

-- copies of a dual number with no second part have none
pub dual_copies : {N : Type 0} (k : CommRing N) (n : ℕ) (x : N) → copies (duals k) n (dual x k.zero) ≡ dual (copies k n x) k.zero
dual_copies k zero x = refl
dual_copies k (suc n) x =
    ap (λ y. (duals k).add y (dual x k.zero)) (dual_copies k n x) ∙ dual_eq refl (k.add_zero k.zero)
