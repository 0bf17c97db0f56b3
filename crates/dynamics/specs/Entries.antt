-- What a show lists of tables over the joints.
use Rattle.std.specs.Prelude.{ℕ, zero, suc, List, [], ◌∷◌, ◌++◌}

-- the entries 1 to n of a table
abbrev pub entries : {A : Type 0} → ℕ → (ℕ → A) → List A
entries zero f = []
entries (suc n) f = entries n f ++ (f (suc n) ∷ [])

-- the rows 1 to m of a matrix one after another, each by its entries 1 to n
abbrev pub rows : {A : Type 0} → ℕ → ℕ → (ℕ → ℕ → A) → List A
rows zero n f = []
rows (suc m) n f = rows m n f ++ entries n (f (suc m))
