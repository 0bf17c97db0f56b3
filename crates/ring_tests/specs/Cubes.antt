-- The cube of a number, and its slope.
use Rattle.std.specs.Prelude.{pos}
use Rattle.ring.specs.CommRing.{CommRing}
use Rattle.ring.specs.Whole.{whole}

module _ {N : Type 0} (k : CommRing N) where
  abbrev pub cubed : N → N
  cubed x = k.mul (k.mul x x) x

  abbrev pub slope_of_cube : N → N
  slope_of_cube x = k.mul (k.mul (whole k (pos 3)) x) x
