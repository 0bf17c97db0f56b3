-- Newton's steps to an inverse modulo 2 ^ 32.
use Rattle.std.proofs.Common.{◌≡◌, ℕ, suc, ◌+◌, ◌*◌, ◌/◌, ◌%◌, ◌^◌, [], ◌∷◌, sym, refl, ap, ◌∙◌, mul_comm, pow-suc, two-mul, arith, pow-add}
use native.Mathlib.Nat.{dvd_of_mod-eq-zero}
use Rattle.ring.specs.CommRing.{CommRing}
use Rattle.ring.specs.Laws.{zero_mul, neg_only, neg_neg}
use Rattle.modular.specs.Below.{Below, residue, below_eq, mul_mod_l}
use Rattle.modular.specs.Euclid.{no_inverse}
use Rattle.word.specs.Words.{words, words_big}
use Rattle.modular.specs.Least.{sum_of, product_of}
use Rattle.ring.proofs.Solve.{var, unit, ◌⊕◌, ◌⊗◌, ◌⊝◌, opp, solved}

module _ {N : Type 0} (k : CommRing N) where
  open k use {add, mul, neg}

  -- how far x is from being the inverse of a
  abbrev pub error : N → N → N
  error a x = add k.one (neg (mul a x))

  -- 2 - a x, as code works it out from a number that stands for 2
  abbrev pub refined : N → N → N
  refined a x = mul x (add (add k.one k.one) (neg (mul a x)))

  pub refined_error : (a x : N) → error a (refined a x) ≡ mul (error a x) (error a x)
  refined_error a x =
      solved k (a ∷ x ∷ [])
      (unit ⊝ var 0 ⊗ (var 1 ⊗ (unit ⊕ unit ⊝ var 0 ⊗ var 1)))
      ((unit ⊝ var 0 ⊗ var 1) ⊗ (unit ⊝ var 0 ⊗ var 1))
      refl

  -- the first x is 2 - a
  pub first_error : (a : N) → error a (add (add k.one k.one) (neg a)) ≡ mul (add k.one (neg a)) (add k.one (neg a))
  first_error a =
      solved k (a ∷ []) (unit ⊝ var 0 ⊗ (unit ⊕ unit ⊝ var 0)) ((unit ⊝ var 0) ⊗ (unit ⊝ var 0)) refl

  pub squares : (c h : N) → mul (mul c h) (mul c h) ≡ mul (mul c c) (mul h h)
  squares c h =
      solved k (c ∷ h ∷ []) (var 0 ⊗ var 1 ⊗ (var 0 ⊗ var 1)) (var 0 ⊗ var 0 ⊗ (var 1 ⊗ var 1)) refl

  -- no error is left: x is the inverse
  pub exact : (a x h : N) → error a x ≡ mul k.zero h → mul a x ≡ k.one
  exact a x h e =
      sym (neg_neg k (mul a x)) ∙ ap neg (neg_only k k.one (neg (mul a x)) (e ∙ zero_mul k h)) ∙ neg_neg k k.one

abbrev pub class : ℕ → Below (2 ^ 32)
class = residue (2 ^ 32) words_big

-- after i steps the error is a multiple of 2 ^ 2 ^ (i + 1)
abbrev pub Near : ℕ → Below (2 ^ 32) → Below (2 ^ 32) → Type 0
Near i a x = (h : Below (2 ^ 32)) × (error words a x ≡ words.mul (class (2 ^ (2 ^ suc i))) h)

-- one less an odd number is even
even_rest :
    (a : ℕ) → a % 2 ≡ 1
    → words.add words.one (words.neg (class a)) ≡ words.mul (class 2) (words.neg (class (a / 2)))
even_rest a odd =
    ap (λ y. words.add words.one (words.neg y)) halves
    ∙ solved words (class 2 ∷ class (a / 2) ∷ []) (unit ⊝ (var 0 ⊗ var 1 ⊕ unit)) (var 0 ⊗ opp (var 1)) refl
  where
    halves : class a ≡ words.add (words.mul (class 2) (class (a / 2))) words.one
    halves =
        ap class (let e : a ≡ 2 * (a / 2) + 1 = omega arith in e)
        ∙ sum_of words_big (2 * (a / 2)) 1
        ∙ ap (λ y. words.add y words.one) (product_of words_big 2 (a / 2))

pub near_first :
    (a : ℕ) → a % 2 ≡ 1 → (x : Below (2 ^ 32))
    → x ≡ words.add (words.add words.one words.one) (words.neg (class a)) → Near 0 (class a) x
near_first a odd x e = (
  words.mul h h,
  ap (error words (class a)) e
      ∙ first_error words (class a)
      ∙ ap (λ y. words.mul y y) (even_rest a odd)
      ∙ squares words (class 2) h
      ∙ ap (λ y. words.mul y (words.mul h h)) (below_eq (words.mul (class 2) (class 2)) (class (2 ^ (2 ^ suc 0))) refl),
)
  where
    h : Below (2 ^ 32)
    h = words.neg (class (a / 2))

twice_power : (i : ℕ) → 2 ^ (2 ^ suc (suc i)) ≡ 2 ^ (2 ^ suc i) * 2 ^ (2 ^ suc i)
twice_power i = ap (λ n. 2 ^ n) double ∙ pow-add 2 (2 ^ suc i) (2 ^ suc i)
  where
    double : 2 ^ suc (suc i) ≡ 2 ^ suc i + 2 ^ suc i
    double = pow-suc 2 (suc i) ∙ mul_comm (2 ^ suc i) 2 ∙ two-mul (2 ^ suc i)

pub near_next : (i : ℕ) (a x y : Below (2 ^ 32)) → y ≡ refined words a x → Near i a x → Near (suc i) a y
near_next i a x y e n = (
  words.mul n.0 n.0,
  ap (error words a) e
      ∙ refined_error words a x
      ∙ ap (λ z. words.mul z z) n.1
      ∙ squares words c n.0
      ∙ ap (λ z. words.mul z (words.mul n.0 n.0)) (sym square),
)
  where
    p : ℕ
    p = 2 ^ (2 ^ suc i)

    c : Below (2 ^ 32)
    c = class p

    square : class (2 ^ (2 ^ suc (suc i))) ≡ words.mul c c
    square = ap class (twice_power i) ∙ product_of words_big p p

pub near_last : (i : ℕ) (a x : Below (2 ^ 32)) → i ≡ 4 → Near i a x → words.mul a x ≡ words.one
near_last i a x e n =
    exact words a x n.0 (n.1 ∙ ap (λ y. words.mul y n.0) (ap (λ j. class (2 ^ (2 ^ suc j))) e ∙ below_eq (class (2 ^ (2 ^ 5))) words.zero refl))

-- the word 2 stands for two ones
pub two_is : class 2 ≡ words.add words.one words.one
two_is = below_eq (class 2) (words.add words.one words.one) refl

-- no number multiplies an even one to one
pub even_missing : (a : ℕ) → a % 2 ≡ 0 → (n : Below (2 ^ 32)) → words.mul (class a) n ≡ words.one → ⊥
even_missing a even n e =
    no_inverse a (2 ^ 32) 2 (dvd_of_mod-eq-zero 2 even) (dvd_of_mod-eq-zero 2 refl) (λ h. omega arith) n.at (sym (mul_mod_l a n.at (2 ^ 32)) ∙ ap (λ x. x.at) e)
