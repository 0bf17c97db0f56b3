-- How a whole number enters a ring.
use Rattle.std.specs.Prelude.{ℕ, zero, suc, ℤ, pos, negsuc}
use Rattle.ring.specs.CommRing.{CommRing}

module _ {N : Type 0} (k : CommRing N) where
  -- x added n times
  abbrev pub copies : ℕ → N → N
  copies zero x = k.zero
  copies (suc n) x = k.add (copies n x) x

  -- n ones added, or where it is negative that many negatives of one
  abbrev pub whole : ℤ → N
  whole (pos n) = copies n k.one
  whole (negsuc n) = copies (suc n) (k.neg k.one)
