-- A commutative ring, modules over it, and a pairing of two modules.
use Rattle.std.specs.Prelude.{◌≡◌}
use Rattle.std.proofs.Common.{sym, ◌∙◌, ap}
use Rattle.ring.specs.CommRing.{CommRing}

pub record Module (Car : Type 0) (R : CommRing Car) (Vec : Type 0) : Type 0 where
  pub plus : Vec → Vec → Vec
  pub zer : Vec
  pub sc : Car → Vec → Vec
  pub plus_assoc : (x y z : Vec) → plus (plus x y) z ≡ plus x (plus y z)
  pub plus_comm : (x y : Vec) → plus x y ≡ plus y x
  pub plus_zer : (x : Vec) → plus x zer ≡ x
  pub sc_plus : (r : Car) (x y : Vec) → sc r (plus x y) ≡ plus (sc r x) (sc r y)
  pub add_sc : (r s : Car) (x : Vec) → sc (R.add r s) x ≡ plus (sc r x) (sc s x)
  pub mul_sc : (r s : Car) (x : Vec) → sc (R.mul r s) x ≡ sc r (sc s x)
  pub one_sc : (x : Vec) → sc R.one x ≡ x
  pub nil_sc : (x : Vec) → sc R.zero x ≡ zer
  pub sc_zer : (r : Car) → sc r zer ≡ zer

pub record Pairing (Car Mot For : Type 0) (R : CommRing Car) (M : Module Car R Mot) (F : Module Car R For) : Type 0 where
  pub pair : Mot → For → Car
  pub pair_plus : (m : Mot) (f g : For) → pair m (F.plus f g) ≡ R.add (pair m f) (pair m g)
  pub pair_sc : (m : Mot) (r : Car) (f : For) → pair m (F.sc r f) ≡ R.mul r (pair m f)
  pub plus_pair : (m n : Mot) (f : For) → pair (M.plus m n) f ≡ R.add (pair m f) (pair n f)
  pub sc_pair : (r : Car) (m : Mot) (f : For) → pair (M.sc r m) f ≡ R.mul r (pair m f)

module _ {Car : Type 0} (R : CommRing Car) where
  open R use {add as ◌⊕◌, mul as ◌⊗◌, neg, zero as nil, one, add_assoc, add_comm, add_zero as add_nil, add_neg, mul_assoc, mul_comm, mul_one, distrib as mul_add}

  infixl 60 ◌⊕◌
  infixl 70 ◌⊗◌
  pub add_left : (x y z : Car) → x ⊕ (y ⊕ z) ≡ y ⊕ (x ⊕ z)
  add_left x y z = sym (add_assoc x y z) ∙ ap (λ w. w ⊕ z) (add_comm x y) ∙ add_assoc y x z

  pub mul_left : (x y z : Car) → x ⊗ (y ⊗ z) ≡ y ⊗ (x ⊗ z)
  mul_left x y z = sym (mul_assoc x y z) ∙ ap (λ w. w ⊗ z) (mul_comm x y) ∙ mul_assoc y x z

  pub nil_add : (x : Car) → nil ⊕ x ≡ x
  nil_add x = add_comm nil x ∙ add_nil x

  pub one_mul : (x : Car) → one ⊗ x ≡ x
  one_mul x = mul_comm one x ∙ mul_one x

  pub add_mul : (x y z : Car) → (x ⊕ y) ⊗ z ≡ x ⊗ z ⊕ y ⊗ z
  add_mul x y z = simp (mul_comm, mul_add)

  pub cancel : (x y : Car) → x ⊕ (neg x ⊕ y) ≡ y
  cancel x y = sym (add_assoc x (neg x) y) ∙ simp (add_neg, nil_add)

  pub neg_add_self : (x : Car) → neg x ⊕ x ≡ nil
  neg_add_self x = add_comm (neg x) x ∙ add_neg x

  pub cancel' : (x y : Car) → neg x ⊕ (x ⊕ y) ≡ y
  cancel' x y = sym (add_assoc (neg x) x y) ∙ simp (neg_add_self, nil_add)

  pub cancel_left : (x y z : Car) → x ⊕ y ≡ x ⊕ z → y ≡ z
  cancel_left x y z e = sym (cancel' x y) ∙ ap (λ w. neg x ⊕ w) e ∙ cancel' x z

  -- what adds up to nil with x is neg x
  pub neg_unique : (x y : Car) → x ⊕ y ≡ nil → y ≡ neg x
  neg_unique x y e = cancel_left x y (neg x) (e ∙ sym (add_neg x))

  pub neg_add : (x y : Car) → neg (x ⊕ y) ≡ neg x ⊕ neg y
  neg_add x y = sym (neg_unique (x ⊕ y) (neg x ⊕ neg y) (simp (add_assoc, add_left y (neg x) (neg y), add_neg, add_nil)))

  pub mul_nil : (x : Car) → x ⊗ nil ≡ nil
  mul_nil x = cancel_left (x ⊗ nil) (x ⊗ nil) nil (sym (mul_add x nil nil) ∙ simp add_nil)

  pub neg_nil : neg nil ≡ nil
  neg_nil = sym (neg_unique nil nil (add_nil nil))

  pub nil_mul : (x : Car) → nil ⊗ x ≡ nil
  nil_mul x = mul_comm nil x ∙ mul_nil x

  pub mul_neg : (x y : Car) → x ⊗ neg y ≡ neg (x ⊗ y)
  mul_neg x y = neg_unique (x ⊗ y) (x ⊗ neg y) (sym (mul_add x y (neg y)) ∙ simp (add_neg, mul_nil))

  pub back : (x y : Car) → (x ⊕ y) ⊕ neg y ≡ x
  back x y = simp (add_assoc, add_neg, add_nil)

  pub forth : (x y : Car) → (x ⊕ neg y) ⊕ y ≡ x
  forth x y = simp (add_assoc, neg_add_self, add_nil)

  pub strip : (w z b : Car) → (w ⊕ z ⊕ b) ⊕ neg b ⊕ neg w ≡ z
  strip w z b = simp back (ap (λ y. y ⊕ neg w) (add_comm w z) ∙ back z w)

  pub unstrip : (w b τ : Car) → w ⊕ (τ ⊕ neg b ⊕ neg w) ⊕ b ≡ τ
  unstrip w b τ = ap (λ y. y ⊕ b) (add_comm w _ ∙ forth (τ ⊕ neg b) w) ∙ forth τ b

  pub unit_out : (D d y : Car) → D ⊗ d ≡ one → d ⊗ (y ⊗ D) ≡ y
  unit_out D d y e = simp (mul_left d y D, mul_comm d D, e, mul_one)

  pub solve : (D d q w b τ : Car) → D ⊗ d ≡ one → w ⊕ q ⊗ D ⊕ b ≡ τ → q ≡ d ⊗ (τ ⊕ neg b ⊕ neg w)
  solve D d q w b τ e h = sym (ap (λ t. d ⊗ (t ⊕ neg b ⊕ neg w)) (sym h) ∙ ap (λ t. d ⊗ t) (strip w (q ⊗ D) b) ∙ unit_out D d q e)

  pub solved : (D d w b τ : Car) → D ⊗ d ≡ one → w ⊕ (d ⊗ (τ ⊕ neg b ⊕ neg w)) ⊗ D ⊕ b ≡ τ
  solved D d w b τ e =
      ap (λ y. w ⊕ y ⊕ b) (mul_assoc d _ D ∙ unit_out D d _ e) ∙ unstrip w b τ

  pub inverse_unique : (D x y : Car) → D ⊗ x ≡ one → D ⊗ y ≡ one → x ≡ y
  inverse_unique D x y ex ey =
      sym (mul_one x) ∙ ap (λ z. x ⊗ z) (sym ey) ∙ mul_left x D y ∙ sym (mul_assoc D x y) ∙ ap (λ z. z ⊗ y) ex ∙ one_mul y

module _ {Car : Type 0} {R : CommRing Car} {Vec : Type 0} (M : Module Car R Vec) where
  open M use {plus as ◌+◌, zer, sc as ◌·◌, plus_assoc, plus_comm, plus_zer}

  infixl 60 ◌+◌
  pub plus_left : (x y z : Vec) → x + (y + z) ≡ y + (x + z)
  plus_left x y z = sym (plus_assoc x y z) ∙ ap (λ w. w + z) (plus_comm x y) ∙ plus_assoc y x z

  pub zer_plus : (x : Vec) → zer + x ≡ x
  zer_plus x = plus_comm zer x ∙ plus_zer x
