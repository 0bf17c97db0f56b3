-- The whole numbers by which a number is written down.
use Rattle.std.specs.Prelude.{◌≡◌, ℕ, ◌^◌, ◌<◌, List, length, slice_index}

-- each number has `count` parts, each below 2 ^ 32, and equal parts are those of equal numbers
pub record Parts {N : Type 0} (count : ℕ) (parts : N → List ℕ) : Type 0 where
  pub counted : (x : N) → length (parts x) ≡ count
  pub small : (x : N) (i : ℕ) → slice_index (parts x) i < 2 ^ 32
  pub told : (x y : N) → parts x ≡ parts y → x ≡ y
