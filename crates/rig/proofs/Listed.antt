-- A result list by its entries.
use Rattle.std.proofs.Common.{◌≡◌, ℕ, zero, suc, ◌+◌, ◌-◌, ◌*◌, ◌<◌, ◌≤◌, List, [], ◌∷◌, ◌++◌, map, length, get_or, take, drop, sym, refl, ap, ◌∙◌, ap₂, suc-mul, zero-mul, arith}
use Rattle.std.proofs.lemmas.List.{map_more, same_lists, length-append, length-drop, get_or-drop}
use Rattle.std.proofs.lemmas.Slice.{drop-append-drop}
use Rattle.dynamics.specs.Entries.{entries, rows}
use Rattle.rig.specs.Cells.{cell, Past}
use Rattle.rig.specs.Shows.{Shown}

some_of : {X : Type 0} (xs : List X) → 0 < length xs → X
some_of [] l = absurd (omega arith)
some_of (x ∷ xs) l = x

pub front_fits : {X : Type 0} (xs ys : List X) (m : ℕ) → length xs ≡ m → m ≤ length (xs ++ ys)
front_fits xs ys m same = simp length-append (omega arith)

module _ {V N : Type 0} (v : V → N) where
  -- from entry m on
  pub listed_from :
      (m n : ℕ) (xs : List V) (f : ℕ → N) → m + n ≤ length xs
      → ((j : ℕ) → j < n → (d : V) → v (get_or xs (m + j) d) ≡ f (suc j))
      → map v (take (m + n) xs) ≡ map v (take m xs) ++ entries n f
  listed_from m zero xs f l e = ap (λ i. map v (take i xs)) (omega arith) ∙ nothing (map v (take m xs))
    where
      nothing : (ys : List N) → ys ≡ ys ++ []
      nothing [] = refl
      nothing (y ∷ ys) = ap (λ zs. y ∷ zs) (nothing ys)
  listed_from m (suc n) xs f l e =
      let d = some_of xs (omega arith) in
      let i : m + suc n ≡ m + n + 1 = omega arith in
      ap (λ i. map v (take i xs)) i
      ∙ map_more v xs (m + n) d (omega arith)
      ∙ ap₂ (λ ys y. ys ++ (y ∷ [])) (listed_from m n xs f (omega arith) (λ j b d. e j (omega arith) d)) (e n (omega arith) d)
      ∙ assoc (map v (take m xs)) (entries n f) (f (suc n) ∷ [])
    where
      assoc : (xs ys zs : List N) → (xs ++ ys) ++ zs ≡ xs ++ (ys ++ zs)
      assoc [] ys zs = refl
      assoc (x ∷ xs) ys zs = ap (λ ws. x ∷ ws) (assoc xs ys zs)

  pub listed :
      (n : ℕ) (xs : List V) (f : ℕ → N) → n ≤ length xs → ((j : ℕ) → j < n → (d : V) → v (get_or xs j d) ≡ f (suc j))
      → map v (take n xs) ≡ entries n f
  listed n xs f l e =
      let z : n ≡ 0 + n = omega arith in
      ap (λ i. map v (take i xs)) z
      ∙ listed_from 0 n xs f (omega arith) (λ j b d. ap (λ i. v (get_or xs i d)) (omega arith) ∙ e j b d)

  past :
      (n : ℕ) (old new : List V) → length new ≡ length old → ((j : ℕ) → n ≤ j → (d : V) → get_or new j d ≡ get_or old j d)
      → drop n new ≡ drop n old
  past n old new same rest =
      same_lists (drop n new) (drop n old) (length-drop n new ∙ ap (λ m. m - n) same ∙ sym (length-drop n old))
      (λ j d b. get_or-drop n new j d ∙ rest (n + j) (omega arith) d ∙ sym (get_or-drop n old j d))

  pub shown :
      (n : ℕ) (f : ℕ → N) (old new : List V) → n ≤ length new → length new ≡ length old
      → ((j : ℕ) → j < n → (d : V) → v (get_or new j d) ≡ f (suc j))
      → ((j : ℕ) → n ≤ j → (d : V) → get_or new j d ≡ get_or old j d)
      → Shown v n (entries n f) old new
  shown n f old new l same told rest = record { filled = listed n new f l told; rest = past n old new same rest }

  -- the same where the entries shown were cleared before
  pub shown_over :
      (m : ℕ) (numbers : List N) (old zeros new : List V) → length zeros ≡ m → Shown v m numbers (zeros ++ drop m old) new
      → Shown v m numbers old new
  shown_over m numbers old zeros new same s =
      record { filled = s.filled; rest = s.rest ∙ drop-append-drop m old zeros m (omega arith) same }

  -- the rows of a matrix
  listed_rows :
      (m n : ℕ) (xs : List V) (f : ℕ → ℕ → N) → m * n ≤ length xs
      → ((a b : ℕ) → a < m → b < n → (d : V) → v (get_or xs (cell n a b) d) ≡ f (suc a) (suc b))
      → map v (take (m * n) xs) ≡ rows m n f
  listed_rows zero n xs f l e = ap (λ i. map v (take i xs)) (zero-mul n)
  listed_rows (suc m) n xs f l e =
      let s = suc-mul m n in
      ap (λ i. map v (take i xs)) s
      ∙ listed_from (m * n) n xs (f (suc m)) (omega arith) (λ b h d. e m b (omega arith) h d)
      ∙ ap (λ ys. ys ++ entries n (f (suc m))) (listed_rows m n xs f (omega arith) (λ a b h d. e a b (omega arith) d))

  pub shown_rows :
      (n : ℕ) (f : ℕ → ℕ → N) (old new : List V) → n * n ≤ length new → length new ≡ length old
      → ((a b : ℕ) → a < n → b < n → (d : V) → v (get_or new (cell n a b) d) ≡ f (suc a) (suc b))
      → Past (n * n) old new
      → Shown v (n * n) (rows n n f) old new
  shown_rows n f old new l same told rest =
      record { filled = listed_rows n n new f l told; rest = past (n * n) old new same rest }
