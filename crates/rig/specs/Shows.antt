-- What a show writes.
use Rattle.std.specs.Prelude.{◌≡◌, ℕ, List, map, take, drop}

-- the first m entries of the result list stand for the numbers shown, and the further ones are as they were
pub record Shown {S N : Type 0} (v : S → N) (m : ℕ) (numbers : List N) (old new : List S) : Type 0 where
  pub filled : map v (take m new) ≡ numbers
  pub rest : drop m new ≡ drop m old
