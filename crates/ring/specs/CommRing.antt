-- What a commutative ring is: its numbers, its operations and their laws.
use Rattle.std.specs.Prelude.{◌≡◌, Bool, true, Some, None, Option, ◌≢◌}

pub record CommRing (N : Type 0) : Type 0 where
  pub zero : N
  pub one : N
  pub add : N → N → N
  pub neg : N → N
  pub mul : N → N → N
  -- the number that multiplies this one to one, or none where no number does
  pub inverse : N → Option N
  pub add_assoc : (x y z : N) → add (add x y) z ≡ add x (add y z)
  pub add_comm : (x y : N) → add x y ≡ add y x
  pub add_zero : (x : N) → add x zero ≡ x
  pub add_neg : (x : N) → add x (neg x) ≡ zero
  pub mul_assoc : (x y z : N) → mul (mul x y) z ≡ mul x (mul y z)
  pub mul_comm : (x y : N) → mul x y ≡ mul y x
  pub mul_one : (x : N) → mul x one ≡ x
  pub distrib : (x y z : N) → mul x (add y z) ≡ add (mul x y) (mul x z)
  pub apart : zero ≡ one → ⊥
  pub inverse_right : (x y : N) → inverse x ≡ Some y → mul x y ≡ one
  pub inverse_none : (x y : N) → inverse x ≡ None → mul x y ≢ one

abbrev pub difference : {N : Type 0} → CommRing N → N → N → N
difference k x y = k.add x (k.neg y)

-- a unit is a number that some number multiplies to one
abbrev pub IsUnit : {N : Type 0} → CommRing N → N → Type 0
IsUnit {N} k x = (y : N) × (k.mul x y ≡ k.one)

-- a test says yes exactly where x and y are the same number
pub record Tells {N : Type 0} (x y : N) (r : Bool) : Type 0 where
  pub yes : r ≡ true → x ≡ y
  pub only : x ≡ y → r ≡ true
