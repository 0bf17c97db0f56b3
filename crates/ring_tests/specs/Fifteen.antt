-- The ring of the whole numbers modulo 15.
use Rattle.std.specs.Prelude.{◌≡◌, ℕ, zero, suc, ◌+◌, ◌-◌, ◌*◌, ◌%◌, ◌^◌, ◌<◌, Bool, true, false, cond, List, [], ◌∷◌, Some, None, Option, MatchOption, ◌==◌, ◌≢◌, slice_index, refl}
use Rattle.std.proofs.Common.{sym, ap, subst, ◌∙◌, mul-add, mul_assoc, mul_comm, mod-lt, mod-eq_of_lt, arith, below_more, eqb-true}
use mathlib.Core.HLevel.{is_prop→PathP}
use Rattle.std.proofs.Math.Bridge.{le_prop}
use Rattle.std.proofs.lemmas.Bool.{eqb-false}
use Rattle.std.proofs.lemmas.Nat.{mul-mod_first, mul-mod_second}
use Rattle.ring.specs.CommRing.{CommRing}
use Rattle.ring.specs.Parts.{Parts}
use Rattle.ring_tests.specs.declared.fifteen.Fifteen.{Fifteen}

-- a number modulo 15, by the least whole number that it is
pub record Number : Type 0 where
  pub at : ℕ
  pub small : at < 15

pub number_eq : (x y : Number) → x.at ≡ y.at → x ≡ y
number_eq x y p =
    λ i. record { at = p i; small = is_prop→PathP (λ j. p j < 15) (λ j. le_prop) x.small y.small i }

abbrev pub read : ℕ → Number
read n = record { at = n % 15; small = mod-lt n (omega arith) }

abbrev pub fifteen_value : Fifteen → Number
fifteen_value f = read f.digit

-- a factor may be read modulo 15 before or after
pub read_left : (a b : ℕ) → (a % 15) * b % 15 ≡ a * b % 15
read_left a b = mul-mod_first a b 15

pub read_right : (a b : ℕ) → a * (b % 15) % 15 ≡ a * b % 15
read_right a b = mul-mod_second a b 15

abbrev pub times : Number → Number → Number
times x y = read (x.at * y.at)

abbrev pub one : Number
one = read 1

-- the number below n that x multiplies to one, by trying each
pub seek : Number → ℕ → Option Number
seek x zero = None
seek x (suc n) = cond ((times x (read n)).at == 1) (Some (read n)) (seek x n)

-- what is found is right, and where nothing is found nothing below n would do
abbrev pub Sought : Number → ℕ → Option Number → Type 0
Sought x n o = MatchOption o ((k : ℕ) → k < n → times x (read k) ≢ one) (λ y. times x y ≡ one)

sought_next :
    (x : Number) (n : ℕ) (b : Bool) → ((times x (read n)).at == 1) ≡ b → (o : Option Number) → Sought x n o
    → Sought x (suc n) (cond b (Some (read n)) o)
sought_next x n true q o h = number_eq _ _ (eqb-true _ _ q)
sought_next x n false q (Some y) h = h
sought_next x n false q None h =
    λ k less.
    below_more (λ k. times x (read k) ≢ one) n h (λ e. eqb-false _ _ q (ap (λ y. y.at) e)) k (omega arith)

pub seek_seeks : (x : Number) (n : ℕ) → Sought x n (seek x n)
unfolding seek
seek_seeks x zero = λ k less. absurd (omega arith)
seek_seeks x (suc n) = sought_next x n ((times x (read n)).at == 1) refl (seek x n) (seek_seeks x n)

-- all 15 numbers are tried
pub all_sought : (x : Number) (o : Option Number) → Sought x 15 o → MatchOption o ((y : Number) → times x y ≢ one) (λ y. times x y ≡ one)
all_sought x (Some y) h = h
all_sought x None h = λ y e. h y.at y.small (ap (times x) (number_eq (read y.at) y (mod-eq_of_lt y.small)) ∙ e)

abbrev pub fifteens : CommRing Number
fifteens =
    record {
      zero = read 0;
      one = one;
      add = λ x y. read (x.at + y.at);
      neg = λ x. read (15 - x.at);
      mul = times;
      inverse = λ x. seek x 15;
      add_assoc = λ x y z. number_eq _ _ (omega arith);
      add_comm = λ x y. number_eq _ _ (omega arith);
      add_zero = λ x. number_eq _ _ (let h = x.small in omega arith);
      add_neg = λ x. number_eq _ _ (let h = x.small in omega arith);
      mul_assoc =
          λ x y z.
          number_eq _ _
          (read_left (x.at * y.at) z.at
          ∙ ap (λ n. n % 15) (mul_assoc x.at y.at z.at)
          ∙ sym (read_right x.at (y.at * z.at)));
      mul_comm = λ x y. number_eq _ _ (ap (λ n. n % 15) (mul_comm x.at y.at));
      mul_one = λ x. number_eq _ _ (let h = x.small in omega arith);
      distrib =
          λ x y z.
          number_eq _ _
          (read_right x.at (y.at + z.at)
          ∙ ap (λ n. n % 15) (mul-add x.at y.at z.at)
          ∙ omega arith);
      apart = λ e. let h : ◌≡◌ {A = ℕ} 0 1 = ap (λ x. x.at) e in omega arith;
      inverse_right =
          λ x y e. let P : Option Number → Type 0 = Sought x 15 in subst P e (seek_seeks x 15);
      inverse_none =
          λ x y e. let P : Option Number → Type 0 = Sought x 15 in all_sought x None (subst P e (seek_seeks x 15)) y;
    }

-- a number has one part, itself
abbrev pub one_part : Number → List ℕ
one_part x = x.at ∷ []

pub one_part_tells : Parts 1 one_part
one_part_tells = record { counted = λ x. refl; small = small; told = λ x y e. number_eq x y (ap (λ l. slice_index l 0) e) }
  where
    small : (x : Number) (i : ℕ) → slice_index (one_part x) i < 2 ^ 32
    small x zero = let h = x.small in omega arith
    small x (suc i) = omega arith
