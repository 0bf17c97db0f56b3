-- Equations that hold in every commutative ring, by computing.
use Rattle.std.proofs.Common.{◌≡◌, ℕ, Bool, true, false, cond, not, eqb, ltb, leb, List, [], ◌∷◌, get_or, sym, refl, ap, ◌∙◌, eqb-true}
use Rattle.ring.specs.CommRing.{CommRing}
use Rattle.ring.specs.Laws.{zero_add, one_mul, mul_zero, zero_mul, distrib_right, neg_only, mul_neg, neg_mul, neg_zero, neg_neg, neg_add, add_swap, mul_swap}

-- What is written over variables with numbers for names.
pub data Term : Type 0 where
  var : ℕ → Term
  nil unit : Term
  ◌⊕◌ ◌⊗◌ : Term → Term → Term
  opp : Term → Term

infixl 60 ◌⊕◌
infixl 70 ◌⊗◌
abbrev pub ◌⊝◌ : Term → Term → Term
◌⊝◌ a b = a ⊕ opp b

infixl 60 ◌⊝◌
-- A sum of products, each with a sign, in an order that brings equal products together.
record Part : Type 0 where
  plus : Bool
  of : List ℕ

abbrev put : ℕ → List ℕ → List ℕ
put v [] = v ∷ []
put v (w ∷ ws) = cond (leb v w) (v ∷ w ∷ ws) (w ∷ put v ws)

abbrev join : List ℕ → List ℕ → List ℕ
join [] ws = ws
join (v ∷ vs) ws = put v (join vs ws)

abbrev same : List ℕ → List ℕ → Bool
same [] [] = true
same [] (w ∷ ws) = false
same (v ∷ vs) [] = false
same (v ∷ vs) (w ∷ ws) = cond (eqb v w) (same vs ws) false

abbrev before : List ℕ → List ℕ → Bool
before [] ws = true
before (v ∷ vs) [] = false
before (v ∷ vs) (w ∷ ws) = cond (eqb v w) (before vs ws) (ltb v w)

abbrev like : Bool → Bool → Bool
like true b = b
like false b = not b

abbrev insert : Part → List Part → List Part
insert t [] = t ∷ []
insert t (u ∷ us) = cond (same t.of u.of) (cond (like t.plus u.plus) (t ∷ u ∷ us) us) (cond (before t.of u.of) (t ∷ u ∷ us) (u ∷ insert t us))

abbrev sums : List Part → List Part → List Part
sums [] q = q
sums (t ∷ p) q = insert t (sums p q)

abbrev turned : Part → Part
turned t = record { plus = not t.plus; of = t.of }

abbrev negated : List Part → List Part
negated [] = []
negated (t ∷ p) = turned t ∷ negated p

abbrev both : Part → Part → Part
both t u = record { plus = like t.plus u.plus; of = join t.of u.of }

abbrev scaled : Part → List Part → List Part
scaled t [] = []
scaled t (u ∷ q) = insert (both t u) (scaled t q)

abbrev products : List Part → List Part → List Part
products [] q = []
products (t ∷ p) q = sums (scaled t q) (products p q)

abbrev norm : Term → List Part
norm (var v) = record { plus = true; of = v ∷ [] } ∷ []
norm nil = []
norm unit = record { plus = true; of = [] } ∷ []
norm (a ⊕ b) = sums (norm a) (norm b)
norm (a ⊗ b) = products (norm a) (norm b)
norm (opp a) = negated (norm a)

abbrev none : List Part → Bool
none [] = true
none (t ∷ p) = false

-- two terms whose difference comes to nothing
abbrev pub agree : Term → Term → Bool
agree a b = none (norm (a ⊝ b))

same_eq : (vs ws : List ℕ) → same vs ws ≡ true → vs ≡ ws
same_eq [] [] e = refl
same_eq [] (w ∷ ws) e = cc
same_eq (v ∷ vs) [] e = cc
same_eq (v ∷ vs) (w ∷ ws) e = by (same_eq vs ws) (eqb v w) refl e
  where
    by : (same vs ws ≡ true → vs ≡ ws) → (b : Bool) → eqb v w ≡ b → cond b (same vs ws) false ≡ true → v ∷ vs ≡ w ∷ ws
    by r true p q = let f = eqb-true v w p in let h = r q in cc
    by r false p q = cc

module _ {N : Type 0} (k : CommRing N) (at : ℕ → N) where
  open k use {add, mul, neg, add_assoc, add_comm, add_zero, add_neg, mul_assoc, mul_comm, mul_one, distrib}

  abbrev pub eval : Term → N
  eval (var v) = at v
  eval nil = k.zero
  eval unit = k.one
  eval (a ⊕ b) = add (eval a) (eval b)
  eval (a ⊗ b) = mul (eval a) (eval b)
  eval (opp a) = neg (eval a)

  abbrev product : List ℕ → N
  product [] = k.one
  product (v ∷ vs) = mul (at v) (product vs)

  abbrev signed : Bool → N → N
  signed true x = x
  signed false x = neg x

  abbrev part : Part → N
  part t = signed t.plus (product t.of)

  abbrev total : List Part → N
  total [] = k.zero
  total (t ∷ p) = add (part t) (total p)

  put_is : (v : ℕ) (ws : List ℕ) → product (put v ws) ≡ mul (at v) (product ws)
  put_is v [] = refl
  put_is v (w ∷ ws) = by (put_is v ws) (leb v w)
    where
      by : product (put v ws) ≡ mul (at v) (product ws) → (b : Bool) → product (cond b (v ∷ w ∷ ws) (w ∷ put v ws)) ≡ mul (at v) (product (w ∷ ws))
      by r true = refl
      by r false = ap (mul (at w)) r ∙ mul_swap k (at w) (at v) (product ws)

  join_is : (vs ws : List ℕ) → product (join vs ws) ≡ mul (product vs) (product ws)
  join_is [] ws = sym (one_mul k (product ws))
  join_is (v ∷ vs) ws = put_is v (join vs ws) ∙ ap (mul (at v)) (join_is vs ws) ∙ sym (mul_assoc (at v) (product vs) (product ws))

  opposite : (a b : Bool) (x y : N) → like a b ≡ false → x ≡ y → add (signed a x) (signed b y) ≡ k.zero
  opposite true true x y l e = cc
  opposite true false x y l e = ap (λ w. add w (neg y)) e ∙ add_neg y
  opposite false true x y l e = ap (λ w. add (neg w) y) e ∙ add_comm (neg y) y ∙ add_neg y
  opposite false false x y l e = cc

  insert_is : (t : Part) (p : List Part) → total (insert t p) ≡ add (part t) (total p)
  insert_is t [] = refl
  insert_is t (u ∷ us) = by (insert_is t us) (same t.of u.of) refl
    where
      rest : total (insert t us) ≡ add (part t) (total us) → (c : Bool) → total (cond c (t ∷ u ∷ us) (u ∷ insert t us)) ≡ add (part t) (total (u ∷ us))
      rest r true = refl
      rest r false = ap (add (part u)) r ∙ add_swap k (part u) (part t) (total us)

      meet : (c : Bool) → like t.plus u.plus ≡ c → t.of ≡ u.of → total (cond c (t ∷ u ∷ us) us) ≡ add (part t) (total (u ∷ us))
      meet true l e = refl
      meet false l e =
          sym (sym (add_assoc (part t) (part u) (total us))
          ∙ ap (λ w. add w (total us)) (opposite t.plus u.plus (product t.of) (product u.of) l (ap product e))
          ∙ zero_add k (total us))

      by : total (insert t us) ≡ add (part t) (total us) → (b : Bool) → same t.of u.of ≡ b → total (cond b (cond (like t.plus u.plus) (t ∷ u ∷ us) us) (cond (before t.of u.of) (t ∷ u ∷ us) (u ∷ insert t us))) ≡ add (part t) (total (u ∷ us))
      by r true e = meet (like t.plus u.plus) refl (same_eq t.of u.of e)
      by r false e = rest r (before t.of u.of)

  sums_is : (p q : List Part) → total (sums p q) ≡ add (total p) (total q)
  sums_is [] q = sym (zero_add k (total q))
  sums_is (t ∷ p) q = insert_is t (sums p q) ∙ ap (add (part t)) (sums_is p q) ∙ sym (add_assoc (part t) (total p) (total q))

  turned_is : (b : Bool) (x : N) → signed (not b) x ≡ neg (signed b x)
  turned_is true x = refl
  turned_is false x = sym (neg_neg k x)

  negated_is : (p : List Part) → total (negated p) ≡ neg (total p)
  negated_is [] = sym (neg_zero k)
  negated_is (t ∷ p) = ap (λ w. add w (total (negated p))) (turned_is t.plus (product t.of)) ∙ ap (add (neg (part t))) (negated_is p) ∙ sym (neg_add k (part t) (total p))

  both_is : (a b : Bool) (x y : N) → signed (like a b) (mul x y) ≡ mul (signed a x) (signed b y)
  both_is true true x y = refl
  both_is true false x y = sym (mul_neg k x y)
  both_is false true x y = sym (neg_mul k x y)
  both_is false false x y = sym (neg_mul k x (neg y) ∙ ap neg (mul_neg k x y) ∙ neg_neg k (mul x y))

  scaled_is : (t : Part) (q : List Part) → total (scaled t q) ≡ mul (part t) (total q)
  scaled_is t [] = sym (mul_zero k (part t))
  scaled_is t (u ∷ q) =
      insert_is (both t u) (scaled t q)
      ∙ ap (λ w. add (signed (like t.plus u.plus) w) (total (scaled t q))) (join_is t.of u.of)
      ∙ ap (λ w. add w (total (scaled t q))) (both_is t.plus u.plus (product t.of) (product u.of))
      ∙ ap (add (mul (part t) (part u))) (scaled_is t q)
      ∙ sym (distrib (part t) (part u) (total q))

  products_is : (p q : List Part) → total (products p q) ≡ mul (total p) (total q)
  products_is [] q = sym (zero_mul k (total q))
  products_is (t ∷ p) q =
      sums_is (scaled t q) (products p q)
      ∙ ap (λ w. add w (total (products p q))) (scaled_is t q)
      ∙ ap (add (mul (part t) (total q))) (products_is p q)
      ∙ sym (distrib_right k (part t) (total p) (total q))

  norm_is : (a : Term) → total (norm a) ≡ eval a
  norm_is (var v) = add_zero (mul (at v) k.one) ∙ mul_one (at v)
  norm_is nil = refl
  norm_is unit = add_zero k.one
  norm_is (a ⊕ b) = sums_is (norm a) (norm b) ∙ ap (λ w. add w (total (norm b))) (norm_is a) ∙ ap (add (eval a)) (norm_is b)
  norm_is (a ⊗ b) = products_is (norm a) (norm b) ∙ ap (λ w. mul w (total (norm b))) (norm_is a) ∙ ap (mul (eval a)) (norm_is b)
  norm_is (opp a) = negated_is (norm a) ∙ ap neg (norm_is a)

  none_is : (p : List Part) → none p ≡ true → total p ≡ k.zero
  none_is [] e = refl
  none_is (t ∷ p) e = cc

  cancel : (x y : N) → add x (neg y) ≡ k.zero → x ≡ y
  cancel x y e = sym (neg_neg k x) ∙ ap neg (sym (neg_only k x (neg y) e)) ∙ neg_neg k y

  -- terms that agree are equal in every commutative ring
  pub solve : (a b : Term) → agree a b ≡ true → eval a ≡ eval b
  solve a b e = cancel (eval a) (eval b) (sym (norm_is (a ⊝ b)) ∙ none_is (norm (a ⊝ b)) e)

-- the same, with a row of numbers for the variables 0, 1, ..
pub solved : {N : Type 0} (k : CommRing N) (xs : List N) (a b : Term) → agree a b ≡ true → eval k (λ i. get_or xs i k.zero) a ≡ eval k (λ i. get_or xs i k.zero) b
solved k xs a b e = solve k (λ i. get_or xs i k.zero) a b e
