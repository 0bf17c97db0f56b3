-- The numbers a + b e with e e = 0, over any ring.
use Rattle.std.specs.Prelude.{◌≡◌, ℕ, zero, suc, ◌+◌, ◌^◌, ◌<◌, List, [], ◌∷◌, ◌++◌, length, take, drop, Some, None, Option, slice_index, refl}
use Rattle.std.proofs.Common.{sym, ap, ◌∙◌, length-append}
use Rattle.std.proofs.Math.Seq.{take-append_seam, drop-append_seam}
use Rattle.std.specs.Option.{option_map}
use Rattle.ring.specs.CommRing.{CommRing}
use Rattle.ring.specs.Parts.{Parts}
use Rattle.ring.specs.RingMap.{RingMap}
use Rattle.ring.specs.Laws.{zero_add, mul_zero, distrib_right, medial, mul_neg, ring_map}
use Rattle.dual.specs.declared.dual.Dual.{Dual}

abbrev pub dual : {N : Type 0} → N → N → Dual N
dual a b = record { first = a; second = b }

-- each part by f
abbrev pub dual_map : {S N : Type 0} → (S → N) → Dual S → Dual N
dual_map f x = dual (f x.first) (f x.second)

pub dual_eq : {N : Type 0} {x y : Dual N} → x.first ≡ y.first → x.second ≡ y.second → x ≡ y
dual_eq p q = λ i. record { first = p i; second = q i }

abbrev pub first_part : {N : Type 0} → Dual N → N
first_part x = x.first

module _ {N : Type 0} (k : CommRing N) where
  open k use {add, mul, neg, add_assoc, add_comm, add_zero, add_neg, mul_assoc, mul_comm, mul_one, distrib}

  abbrev pub dual_mul : Dual N → Dual N → Dual N
  dual_mul x y = dual (mul x.first y.first) (add (mul x.first y.second) (mul x.second y.first))

  -- i - b i i e, where i is the inverse of a
  abbrev pub dual_over : Dual N → N → Dual N
  dual_over x i = dual i (neg (mul (mul x.second i) i))

  abbrev pub dual_inverse : Dual N → Option (Dual N)
  dual_inverse x = option_map (dual_over x) (k.inverse x.first)

  over_right : (x : Dual N) (i : N) → mul x.first i ≡ k.one → dual_mul x (dual_over x i) ≡ dual k.one k.zero
  over_right x i e =
      let a = x.first in
      let b = x.second in
      let once : mul a (mul (mul b i) i) ≡ mul b i =
      mul_comm a (mul (mul b i) i) ∙ mul_assoc (mul b i) i a ∙ ap (mul (mul b i)) (mul_comm i a ∙ e) ∙ mul_one (mul b i) in
      dual_eq e
      (ap (λ w. add w (mul b i)) (mul_neg k a (mul (mul b i) i) ∙ ap neg once)
      ∙ add_comm (neg (mul b i)) (mul b i)
      ∙ add_neg (mul b i))

  pub dual_inverse_right :
      (x y : Dual N) (o : Option N) → k.inverse x.first ≡ o → option_map (dual_over x) o ≡ Some y
      → dual_mul x y ≡ dual k.one k.zero
  dual_inverse_right x y None e h = cc
  dual_inverse_right x y (Some i) e h =
      ap (dual_mul x) (sym inside) ∙ over_right x i (k.inverse_right x.first i e)
    where
      inside : dual_over x i ≡ y
      inside = cc

  -- a dual number has no inverse only where its first part has none
  pub none_first : (x : Dual N) (o : Option N) → option_map (dual_over x) o ≡ None → o ≡ None
  none_first x None h = refl
  none_first x (Some i) h = cc

  abbrev pub duals : CommRing (Dual N)
  duals =
      record {
        zero = dual k.zero k.zero;
        one = dual k.one k.zero;
        add = λ x y. dual (add x.first y.first) (add x.second y.second);
        neg = λ x. dual (neg x.first) (neg x.second);
        mul = dual_mul;
        inverse = dual_inverse;
        add_assoc =
            λ x y z. dual_eq (add_assoc x.first y.first z.first) (add_assoc x.second y.second z.second);
        add_comm = λ x y. dual_eq (add_comm x.first y.first) (add_comm x.second y.second);
        add_zero = λ x. dual_eq (add_zero x.first) (add_zero x.second);
        add_neg = λ x. dual_eq (add_neg x.first) (add_neg x.second);
        mul_assoc = λ x y z. dual_eq (mul_assoc x.first y.first z.first) (second_assoc x y z);
        mul_comm = λ x y. dual_eq (mul_comm x.first y.first) (second_comm x y);
        mul_one =
            λ x.
            dual_eq (mul_one x.first)
            (ap (λ w. add w (mul x.second k.one)) (mul_zero k x.first)
            ∙ zero_add k (mul x.second k.one)
            ∙ mul_one x.second);
        distrib = λ x y z. dual_eq (distrib x.first y.first z.first) (second_distrib x y z);
        apart = λ e. k.apart (ap first_part e);
        inverse_right = λ x y. dual_inverse_right x y (k.inverse x.first) refl;
        inverse_none =
            λ x y e h. k.inverse_none x.first y.first (none_first x (k.inverse x.first) e) (ap first_part h);
      }
    where
      second_assoc : (x y z : Dual N) → (dual_mul (dual_mul x y) z).second ≡ (dual_mul x (dual_mul y z)).second
      second_assoc x y z =
          let a = x.first in
          let a' = x.second in
          let b = y.first in
          let b' = y.second in
          let c = z.first in
          let c' = z.second in
          ap (λ w. add w (mul (add (mul a b') (mul a' b)) c)) (mul_assoc a b c')
          ∙ ap (add (mul a (mul b c')))
          (distrib_right k (mul a b') (mul a' b) c
          ∙ ap (λ w. add w (mul (mul a' b) c)) (mul_assoc a b' c)
          ∙ ap (add (mul a (mul b' c))) (mul_assoc a' b c))
          ∙ sym (add_assoc (mul a (mul b c')) (mul a (mul b' c)) (mul a' (mul b c)))
          ∙ ap (λ w. add w (mul a' (mul b c))) (sym (distrib a (mul b c') (mul b' c)))

      second_comm : (x y : Dual N) → (dual_mul x y).second ≡ (dual_mul y x).second
      second_comm x y =
          add_comm (mul x.first y.second) (mul x.second y.first)
          ∙ ap (λ w. add w (mul x.first y.second)) (mul_comm x.second y.first)
          ∙ ap (add (mul y.first x.second)) (mul_comm x.first y.second)

      second_distrib :
          (x y z : Dual N)
          → add (mul x.first (add y.second z.second)) (mul x.second (add y.first z.first))
          ≡ add (dual_mul x y).second (dual_mul x z).second
      second_distrib x y z =
          ap (λ w. add w (mul x.second (add y.first z.first))) (distrib x.first y.second z.second)
          ∙ ap (add (add (mul x.first y.second) (mul x.first z.second))) (distrib x.second y.first z.first)
          ∙ medial k (mul x.first y.second) (mul x.first z.second) (mul x.second y.first) (mul x.second z.first)

  -- first parts are worked out by first parts alone
  pub first_part_map : RingMap duals k first_part
  first_part_map =
      ring_map duals k first_part (λ x y. refl) (λ x y. refl) refl
      (λ x y e h. k.inverse_none x.first y (none_first x (k.inverse x.first) h) e)

append_told : {A : Type 0} (a b c d : List A) → length a ≡ length c → a ++ b ≡ c ++ d → (a ≡ c) × (b ≡ d)
append_told a b c d l e = (
  sym (take-append_seam a b) ∙ ap (take (length a)) e ∙ ap (λ n. take n (c ++ d)) l ∙ take-append_seam c d,
  sym (drop-append_seam a b) ∙ ap (drop (length a)) e ∙ ap (λ n. drop n (c ++ d)) l ∙ drop-append_seam c d,
)

append_small : (m : ℕ) (a b : List ℕ) → ((i : ℕ) → slice_index a i < m) → ((i : ℕ) → slice_index b i < m) → (i : ℕ) → slice_index (a ++ b) i < m
append_small m [] b f g i = g i
append_small m (x ∷ a) b f g zero = f 0
append_small m (x ∷ a) b f g (suc i) = append_small m a b (λ j. f (suc j)) g i

-- the parts of a, then those of b
abbrev pub dual_parts : {N : Type 0} → (N → List ℕ) → Dual N → List ℕ
dual_parts parts x = parts x.first ++ parts x.second

pub dual_parts_tell : {N : Type 0} {count : ℕ} {parts : N → List ℕ} → Parts count parts → Parts (count + count) (dual_parts parts)
dual_parts_tell {N} {count} {parts} p =
    record {
      counted =
          λ x.
          let h = p.counted x.first in
          let k = p.counted x.second in
          length-append (parts x.first) (parts x.second)
          ∙ ap (λ n. n + length (parts x.second)) h
          ∙ ap (λ n. count + n) k;
      small =
          λ x i. append_small (2 ^ 32) (parts x.first) (parts x.second) (p.small x.first) (p.small x.second) i;
      told =
          λ x y e.
          let s =
          append_told (parts x.first) (parts x.second) (parts y.first) (parts y.second)
          (p.counted x.first ∙ sym (p.counted y.first)) e in
          dual_eq (p.told x.first y.first s.0) (p.told x.second y.second s.1);
    }
