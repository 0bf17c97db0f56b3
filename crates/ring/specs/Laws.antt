-- What follows from the laws of a commutative ring.
use Rattle.std.specs.Prelude.{◌≡◌, Some, None, Option, MatchOption, ◌≢◌, refl}
use Rattle.std.proofs.Common.{sym, ap, ◌∙◌}
use Rattle.std.specs.Option.{option_map}
use Rattle.ring.specs.CommRing.{CommRing, difference}
use Rattle.ring.specs.RingMap.{RingMap}

module _ {N : Type 0} (k : CommRing N) where
  open k use {add, mul, neg, add_assoc, add_comm, add_zero, add_neg, mul_assoc, mul_comm, mul_one, distrib}

  pub zero_add : (x : N) → add k.zero x ≡ x
  zero_add x = add_comm k.zero x ∙ add_zero x

  pub one_mul : (x : N) → mul k.one x ≡ x
  one_mul x = mul_comm k.one x ∙ mul_one x

  -- equal sums with one equal term have the other equal too
  pub cancel_left : (x y z : N) → add x y ≡ add x z → y ≡ z
  cancel_left x y z e = sym (back y) ∙ ap (add (neg x)) e ∙ back z
    where
      back : (w : N) → add (neg x) (add x w) ≡ w
      back w =
          sym (add_assoc (neg x) x w)
          ∙ ap (λ v. add v w) (add_comm (neg x) x ∙ add_neg x)
          ∙ zero_add w

  -- the negative is the only number that sums to zero
  pub neg_only : (x y : N) → add x y ≡ k.zero → y ≡ neg x
  neg_only x y e = cancel_left x y (neg x) (e ∙ sym (add_neg x))

  -- a sum less its second term is its first
  pub cancel_right : (x y z : N) → add x y ≡ z → x ≡ difference k z y
  cancel_right x y z e =
      sym (add_zero x) ∙ ap (add x) (sym (add_neg y)) ∙ sym (add_assoc x y (neg y)) ∙ ap (λ w. add w (neg y)) e

  pub mul_zero : (x : N) → mul x k.zero ≡ k.zero
  mul_zero x =
      cancel_left (mul x k.zero) (mul x k.zero) k.zero
      (sym (distrib x k.zero k.zero) ∙ ap (mul x) (add_zero k.zero) ∙ sym (add_zero (mul x k.zero)))

  pub zero_mul : (x : N) → mul k.zero x ≡ k.zero
  zero_mul x = mul_comm k.zero x ∙ mul_zero x

  pub distrib_right : (x y z : N) → mul (add x y) z ≡ add (mul x z) (mul y z)
  distrib_right x y z =
      mul_comm (add x y) z ∙ distrib z x y ∙ ap (λ w. add w (mul z y)) (mul_comm z x) ∙ ap (add (mul x z)) (mul_comm z y)

  pub medial : (a b c d : N) → add (add a b) (add c d) ≡ add (add a c) (add b d)
  medial a b c d =
      add_assoc a b (add c d)
      ∙ ap (add a) (sym (add_assoc b c d) ∙ ap (λ w. add w d) (add_comm b c) ∙ add_assoc c b d)
      ∙ sym (add_assoc a c (add b d))

  pub mul_neg : (x y : N) → mul x (neg y) ≡ neg (mul x y)
  mul_neg x y = neg_only (mul x y) (mul x (neg y)) (sym (distrib x y (neg y)) ∙ ap (mul x) (add_neg y) ∙ mul_zero x)

  pub neg_mul : (x y : N) → mul (neg x) y ≡ neg (mul x y)
  neg_mul x y = mul_comm (neg x) y ∙ mul_neg y x ∙ ap neg (mul_comm y x)

  pub neg_zero : neg k.zero ≡ k.zero
  neg_zero = sym (zero_add (neg k.zero)) ∙ add_neg k.zero

  pub neg_neg : (x : N) → neg (neg x) ≡ x
  neg_neg x = sym (neg_only (neg x) x (add_comm (neg x) x ∙ add_neg x))

  pub neg_add : (x y : N) → neg (add x y) ≡ add (neg x) (neg y)
  neg_add x y =
      sym
      (neg_only (add x y) (add (neg x) (neg y))
      (medial x y (neg x) (neg y) ∙ ap (λ w. add w (add y (neg y))) (add_neg x) ∙ ap (add k.zero) (add_neg y) ∙ add_zero k.zero))

  pub add_swap : (x y z : N) → add x (add y z) ≡ add y (add x z)
  add_swap x y z = sym (add_assoc x y z) ∙ ap (λ w. add w z) (add_comm x y) ∙ add_assoc y x z

  pub mul_swap : (x y z : N) → mul x (mul y z) ≡ mul y (mul x z)
  mul_swap x y z = sym (mul_assoc x y z) ∙ ap (λ w. mul w z) (mul_comm x y) ∙ mul_assoc y x z

  -- a number has one inverse at most
  pub inverse_unique : (x y z : N) → mul x y ≡ k.one → mul x z ≡ k.one → y ≡ z
  inverse_unique x y z p q =
      sym (mul_one y)
      ∙ ap (mul y) (sym q)
      ∙ sym (mul_assoc y x z)
      ∙ ap (λ w. mul w z) (mul_comm y x ∙ p)
      ∙ one_mul z

  -- an answer that is right where there is one, and none only where nothing would do, is the inverse
  pub inverse_is : (x : N) (o : Option N) → MatchOption o ((n : N) → mul x n ≢ k.one) (λ i. mul x i ≡ k.one) → o ≡ k.inverse x
  inverse_is x o h = by o h (k.inverse x) refl
    where
      by : (o : Option N) → MatchOption o ((n : N) → mul x n ≢ k.one) (λ i. mul x i ≡ k.one) → (p : Option N) → k.inverse x ≡ p → o ≡ p
      by None h None e = refl
      by None h (Some y) e = absurd (h y (k.inverse_right x y e))
      by (Some i) h None e = absurd (k.inverse_none x i e h)
      by (Some i) h (Some y) e = ap Some (inverse_unique x i y h (k.inverse_right x y e))

  -- the same for a unit whose inverse is known
  pub inverse_of : (x y : N) → mul x y ≡ k.one → k.inverse x ≡ Some y
  inverse_of x y e = sym (inverse_is x (Some y) e)

  pub inverse_missing : (x : N) → ((n : N) → mul x n ≢ k.one) → k.inverse x ≡ None
  inverse_missing x h = sym (inverse_is x None h)

-- a map that keeps sums, products and one, and takes only units to units, keeps everything
module _ {N M : Type 0} (k : CommRing N) (l : CommRing M) (φ : N → M)
    (adds : (x y : N) → φ (k.add x y) ≡ l.add (φ x) (φ y))
    (muls : (x y : N) → φ (k.mul x y) ≡ l.mul (φ x) (φ y))
    (unit : φ k.one ≡ l.one)
    (reflects : (x : N) (y : M) → l.mul (φ x) y ≡ l.one → k.inverse x ≢ None) where
  zeros : φ k.zero ≡ l.zero
  zeros =
      cancel_left l (φ k.zero) (φ k.zero) l.zero
      (sym (adds k.zero k.zero) ∙ ap φ (k.add_zero k.zero) ∙ sym (l.add_zero (φ k.zero)))

  kept : (x : N) (o : Option N) → k.inverse x ≡ o → l.inverse (φ x) ≡ option_map φ o
  kept x None e = inverse_missing l (φ x) (λ y h. reflects x y h e)
  kept x (Some i) e = inverse_of l (φ x) (φ i) (sym (muls x i) ∙ ap φ (k.inverse_right x i e) ∙ unit)

  pub ring_map : RingMap k l φ
  ring_map =
      record {
        keeps_zero = zeros;
        keeps_one = unit;
        keeps_add = adds;
        keeps_neg = λ x. neg_only l (φ x) (φ (k.neg x)) (sym (adds x (k.neg x)) ∙ ap φ (k.add_neg x) ∙ zeros);
        keeps_mul = muls;
        keeps_inverse = λ x. kept x (k.inverse x) refl;
      }
