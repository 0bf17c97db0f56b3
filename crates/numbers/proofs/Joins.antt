-- What texts that are joined by a byte gain from one text more.
use Rattle.std.proofs.Common.{◌≡◌, ℕ, suc, zero, ◌+◌, ◌<◌, ◌≤◌, List, [], ◌∷◌, ◌++◌, map, take, Some, sym, ap, ◌∙◌, append_assoc, add-one, arith}
use Rattle.std.specs.List.{join_with_byte, slice_get}

module _ {A : Type 0} (c : ℕ) (f : A → List ℕ) where
  abbrev joined : ℕ → List A → List ℕ
  joined n xs = join_with_byte c (map f (take n xs))

  -- the first adds itself
  pub joined_first : (xs : List A) (i : ℕ) (x : A) → i ≤ 0 → slice_get xs i ≡ Some x → joined (i + 1) xs ≡ joined i xs ++ f x
  joined_first [] i x h e = absurd (cc)
  joined_first (y ∷ ys) zero x h e = cc
  joined_first (y ∷ ys) (suc i) x h e = absurd (omega arith)

  next : (xs : List A) (i : ℕ) (x : A) → slice_get xs (suc i) ≡ Some x → joined (suc (suc i)) xs ≡ joined (suc i) xs ++ (c ∷ f x)
  next [] i x e = absurd (cc)
  next (y ∷ []) i x e = absurd (cc)
  next (y ∷ z ∷ zs) zero x e = cc
  next (y ∷ z ∷ zs) (suc i) x e =
      ap (λ v. f y ++ (c ∷ v)) (next (z ∷ zs) i x e) ∙ sym (append_assoc (f y) (c ∷ joined (suc i) (z ∷ zs)) (c ∷ f x))

  -- a further one adds the byte and itself
  pub joined_more : (xs : List A) (i : ℕ) (x : A) → 0 < i → slice_get xs i ≡ Some x → joined (i + 1) xs ≡ joined i xs ++ (c ∷ f x)
  joined_more xs zero x h e = absurd (omega arith)
  joined_more xs (suc i) x h e = rw add-one (next xs i x e)
