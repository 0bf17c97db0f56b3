-- Sums of one number with itself.
use Rattle.std.proofs.Common.{◌≡◌, ℕ, zero, suc, ◌+◌, ◌/◌, ◌%◌, ◌<◌, true, ltb, ℤ, pos, negsuc, nat_abs, sym, refl, ap, ◌∙◌, add-zero, add-suc, arith, ltb-true}
use lib.Signed.{lt_z}
use Rattle.ring.specs.CommRing.{CommRing}
use Rattle.ring.specs.Laws.{medial, neg_zero, neg_add}
use Rattle.ring.specs.Whole.{copies, whole}

module _ {N : Type 0} (k : CommRing N) where
  open k use {add, neg, add_assoc, add_comm}

  pub copies_add : (m n : ℕ) (x : N) → copies k (m + n) x ≡ add (copies k m x) (copies k n x)
  copies_add m zero x = ap (λ i. copies k i x) (add-zero m) ∙ sym (k.add_zero (copies k m x))
  copies_add m (suc n) x =
      ap (λ i. copies k i x) (add-suc m n) ∙ ap (λ y. add y x) (copies_add m n x) ∙ add_assoc (copies k m x) (copies k n x) x

  pub copies_twice : (n : ℕ) (x : N) → copies k n (add x x) ≡ add (copies k n x) (copies k n x)
  copies_twice zero x = sym (k.add_zero k.zero)
  copies_twice (suc n) x =
      ap (λ y. add y (add x x)) (copies_twice n x) ∙ medial k (copies k n x) (copies k n x) x x

  pub copies_neg : (n : ℕ) (x : N) → copies k n (neg x) ≡ neg (copies k n x)
  copies_neg zero x = sym (neg_zero k)
  copies_neg (suc n) x = ap (λ y. add y (neg x)) (copies_neg n x) ∙ sym (neg_add k (copies k n x) x)

  pub copies_zero : (n : ℕ) → copies k n k.zero ≡ k.zero
  copies_zero zero = refl
  copies_zero (suc n) = k.add_zero (copies k n k.zero) ∙ copies_zero n

  halves : (n : ℕ) (x : N) → copies k (n + n) x ≡ copies k n (add x x)
  halves n x = copies_add n n x ∙ sym (copies_twice n x)

  -- an even count of copies is half as many of twice the number
  pub even_copies : (n : ℕ) (x : N) → n % 2 ≡ 0 → copies k n x ≡ copies k (n / 2) (add x x)
  even_copies n x e =
      let h : n ≡ n / 2 + n / 2 = omega arith in
      ap (λ i. copies k i x) h ∙ halves (n / 2) x

  pub odd_copies : (n : ℕ) (x : N) → n % 2 ≡ 1 → copies k n x ≡ add x (copies k (n / 2) (add x x))
  odd_copies n x e =
      let h : n ≡ suc (n / 2 + n / 2) = omega arith in
      ap (λ i. copies k i x) h
      ∙ ap (λ y. add y x) (halves (n / 2) x)
      ∙ add_comm (copies k (n / 2) (add x x)) x

not_below : (a : ℕ) → ltb a 0 ≡ true → ⊥
not_below a e = let h : a < 0 = ltb-true a 0 e in omega arith

-- the negative of as many ones as a negative number counts is that number
pub negative_whole :
    {N : Type 0} (k : CommRing N) (z : ℤ) (n : ℕ) → lt_z z (pos 0) ≡ true → n ≡ nat_abs z
    → k.neg (copies k n k.one) ≡ whole k z
negative_whole k (pos a) n low e = absurd (not_below a low)
negative_whole k (negsuc a) n low e = ap (λ i. k.neg (copies k i k.one)) e ∙ sym (copies_neg k (suc a) k.one)
