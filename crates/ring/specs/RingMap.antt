-- Maps between rings.
use Rattle.std.specs.Prelude.{◌≡◌}
use Rattle.std.specs.Option.{option_map}
use Rattle.ring.specs.CommRing.{CommRing}

-- φ keeps zero, one, sums, negatives and products, takes inverses to inverses, and none to none
pub record RingMap {N M : Type 0} (k : CommRing N) (l : CommRing M) (φ : N → M) : Type 0 where
  pub keeps_zero : φ k.zero ≡ l.zero
  pub keeps_one : φ k.one ≡ l.one
  pub keeps_add : (x y : N) → φ (k.add x y) ≡ l.add (φ x) (φ y)
  pub keeps_neg : (x : N) → φ (k.neg x) ≡ l.neg (φ x)
  pub keeps_mul : (x y : N) → φ (k.mul x y) ≡ l.mul (φ x) (φ y)
  pub keeps_inverse : (x : N) → l.inverse (φ x) ≡ option_map φ (k.inverse x)
