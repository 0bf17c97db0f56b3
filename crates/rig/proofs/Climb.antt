-- The climb from a joint to the base, and the entries that it fills.
use Rattle.std.proofs.Common.{◌≡◌, ℕ, zero, suc, ◌-◌, ◌*◌, ◌/◌, ◌%◌, ◌<◌, ◌≤◌, Bool, true, false, eqb, ◌≢◌, ◌⊎◌, List, length, get_or, set, sym, refl, ap, ◌∙◌, subst, inl, inr, arith, length-set, get_or-set_other, get_or-set_same}
use native.Mathlib.Decide.{dec_le}
use Rattle.std.proofs.lemmas.Nat.{mul-add-lt, div-mul-add, mod-mul-add}
use Rattle.std.proofs.lemmas.Bool.{cases_eq}
use Rattle.ring.specs.CommRing.{CommRing}
use Rattle.motion.specs.Vectors.{force, pairing}
use Rattle.motion.specs.declared.vectors.Force.{Force}
use Rattle.joint.specs.Joints.{joint_inward}
use Rattle.tree_laws.specs.Tree.{Same, same, apart, same?}
use Rattle.tree_laws.specs.Words.{climb}
use Rattle.dynamics.specs.Held.{Held, par}
use Rattle.dynamics.specs.Modules.{motions, forces, power, tree}
use Rattle.dynamics.specs.Recursions.{S}
use Rattle.dynamics.specs.Tables.{climbed}
use Rattle.rig.specs.Cells.{cell, Both, Left, Past, Climbs}

-- two places are one only where row and column are
pub cell_below : (n a b : ℕ) → a < n → b < n → cell n a b < n * n
cell_below n a b la lb = mul-add-lt a n b n la lb

cell_row : (n a b p q : ℕ) → b < n → q < n → cell n a b ≡ cell n p q → a ≡ p
cell_row n a b p q lb lq e = sym (div-mul-add a n b lb) ∙ ap (λ x. x / n) e ∙ div-mul-add p n q lq

cell_column : (n a b p q : ℕ) → b < n → q < n → cell n a b ≡ cell n p q → b ≡ q
cell_column n a b p q lb lq e = sym (mod-mul-add a n b lb) ∙ ap (λ x. x % n) e ∙ mod-mul-add p n q lq

-- x put into the entries (a, b) and (b, a)
abbrev pub put : {V : Type 0} → ℕ → List V → ℕ → ℕ → V → List V
put n xs a b x = set (set xs (cell n a b) x) (cell n b a) x

module _ {V : Type 0} (n : ℕ) (xs : List V) (a b : ℕ) (x : V) (la : a < n) (lb : b < n) (room : n * n ≤ length xs) where
  room_ab : cell n a b < length xs
  room_ab = let l = cell_below n a b la lb in omega arith

  room_ba : cell n b a < length (set xs (cell n a b) x)
  room_ba = let l = cell_below n b a lb la in simp length-set (omega arith)

  put_ab : (d : V) → get_or (put n xs a b x) (cell n a b) d ≡ x
  put_ab d = by (cases_eq (cell n a b) (cell n b a))
    where
      by : (cell n a b ≡ cell n b a) ⊎ (cell n a b ≢ cell n b a) → get_or (put n xs a b x) (cell n a b) d ≡ x
      by (inl e) = ap (λ i. get_or (put n xs a b x) i d) e ∙ get_or-set_same (set xs (cell n a b) x) (cell n b a) x d room_ba
      by (inr ne) = get_or-set_other (set xs (cell n a b) x) (cell n b a) (cell n a b) x d ne ∙ get_or-set_same xs (cell n a b) x d room_ab

  put_ba : (d : V) → get_or (put n xs a b x) (cell n b a) d ≡ x
  put_ba d = get_or-set_same (set xs (cell n a b) x) (cell n b a) x d room_ba

  -- other places are as they were
  pub put_off : (i : ℕ) → i ≢ cell n a b → i ≢ cell n b a → (d : V) → get_or (put n xs a b x) i d ≡ get_or xs i d
  put_off i ne me d = get_or-set_other (set xs (cell n a b) x) (cell n b a) i x d me ∙ get_or-set_other xs (cell n a b) i x d ne

  pub put_past : Past (n * n) xs (put n xs a b x)
  put_past j l d =
      let p = cell_below n a b la lb in
      let q = cell_below n b a lb la in
      put_off j (omega arith) (omega arith) d

  -- pairs of entries (p, q) and (q, p) with another larger number than that of (a, b), or another smaller one
  pub put_left : (p q : ℕ) → p < n → q ≤ p → b ≤ a → ((p ≡ a) × (q ≡ b) → ⊥) → Left n xs (put n xs a b x) p q
  put_left p q lp qp ba ne =
      record {
        here = put_off (cell n p q)
            (λ e. ne (cell_row n p q a b (omega arith) lb e, cell_column n p q a b (omega arith) lb e))
            (λ e. ne (both (cell_row n p q b a (omega arith) la e) (cell_column n p q b a (omega arith) la e)));
        mirror = put_off (cell n q p)
            (λ e. ne (both (cell_column n q p a b lp lb e) (cell_row n q p a b lp lb e)))
            (λ e. ne (cell_column n q p b a lp la e, cell_row n q p b a lp la e));
      }
    where
      both : p ≡ b → q ≡ a → (p ≡ a) × (q ≡ b)
      both e f = (omega arith, omega arith)

  pub put_both : {N : Type 0} (v : V → N) (y : N) → v x ≡ y → Both v n (put n xs a b x) a b y
  put_both v y e = record { here = λ d. ap v (put_ab d) ∙ e; mirror = λ d. ap v (put_ba d) ∙ e }

-- what is left as it was still stands for what it did
pub both_left :
    {V N : Type 0} (v : V → N) (n : ℕ) (old new : List V) (a b : ℕ) (x : N) → Left n old new a b → Both v n old a b x → Both v n new a b x
both_left v n old new a b x l o =
    record { here = λ d. ap v (l.here d) ∙ o.here d; mirror = λ d. ap v (l.mirror d) ∙ o.mirror d }

pub both_is : {V N : Type 0} (v : V → N) (n : ℕ) (xs : List V) (a b : ℕ) (x y : N) → x ≡ y → Both v n xs a b x → Both v n xs a b y
both_is v n xs a b x y e o = record { here = λ d. o.here d ∙ e; mirror = λ d. o.mirror d ∙ e }

pub left_left : {V : Type 0} (n : ℕ) (xs ys zs : List V) (a b : ℕ) → Left n xs ys a b → Left n ys zs a b → Left n xs zs a b
left_left n xs ys zs a b p q = record { here = λ d. q.here d ∙ p.here d; mirror = λ d. q.mirror d ∙ p.mirror d }

module _ {N : Type 0} (k : CommRing N) (h : Held N) where
  abbrev ascend : ℕ → ℕ → Force N → ℕ → N
  ascend = climb k (motions k) (forces k) (power k) (tree k h)

  ascend_else : (d i : ℕ) (G : Force N) (j : ℕ) → j ≢ suc i → ascend (suc d) (suc i) G j ≡ ascend d (par h (suc i)) (joint_inward k (h.joints (suc i)) G) j
  unfolding climb
  ascend_else d i G j ne = go (eqb j (suc i)) (same? j (suc i))
    where
      go :
          (b : Bool) → Same j (suc i) b
          → elim b as (λ _. N) [ true ↦ pairing k (S k h (suc i)) G | false ↦ ascend d (par h (suc i)) (joint_inward k (h.joints (suc i)) G) j ]
          ≡ ascend d (par h (suc i)) (joint_inward k (h.joints (suc i)) G) j
      go true (same e) = absurd (ne e)
      go false (apart _) = refl

  -- the entry of the joint itself
  climbed_here : (j : ℕ) (G : Force N) → climbed k h (suc j) G (suc j) ≡ pairing k (S k h (suc j)) G
  unfolding climb
  climbed_here j G = go (eqb (suc j) (suc j)) (same? (suc j) (suc j))
    where
      go :
          (b : Bool) → Same (suc j) (suc j) b
          → elim b as (λ _. N) [ true ↦ pairing k (S k h (suc j)) G | false ↦ ascend j (par h (suc j)) (joint_inward k (h.joints (suc j)) G) (suc j) ]
          ≡ pairing k (S k h (suc j)) G
      go true (same _) = refl
      go false (apart ne) = absurd (ne refl)

  -- a joint above the one climbed from is not met
  ascend_over : (d p : ℕ) (G : Force N) (j : ℕ) → p < j → ascend d p G j ≡ k.zero
  unfolding climb
  ascend_over d zero G j l = refl
  ascend_over zero (suc i) G j l = refl
  ascend_over (suc d) (suc i) G j l =
      ascend_else d i G j (λ e. omega arith) ∙ ascend_over d (par h (suc i)) (joint_inward k (h.joints (suc i)) G) j (omega arith)

  -- any bound on the steps that suffices gives the same
  ascend_same : (d e p : ℕ) (G : Force N) (j : ℕ) → p ≤ d → p ≤ e → ascend d p G j ≡ ascend e p G j
  unfolding climb
  ascend_same d e zero G j a b = refl
  ascend_same zero e (suc i) G j a b = absurd (omega arith)
  ascend_same (suc d) zero (suc i) G j a b = absurd (omega arith)
  ascend_same (suc d) (suc e) (suc i) G j a b =
      ap (λ x. elim (eqb j (suc i)) as (λ _. N) [ true ↦ pairing k (S k h (suc i)) G | false ↦ x ])
      (ascend_same d e (par h (suc i)) (joint_inward k (h.joints (suc i)) G) j (omega arith) (omega arith))

  -- a joint below, past the parent
  climbed_over : (j : ℕ) (G : Force N) (b : ℕ) → b < j → par h (suc j) ≤ b → climbed k h (suc j) G (suc b) ≡ k.zero
  climbed_over j G b l m = ascend_else j j G (suc b) (λ e. omega arith) ∙ ascend_over j (par h (suc j)) _ (suc b) (omega arith)

  -- a joint below, by way of the parent
  climbed_on : (j p : ℕ) (G : Force N) (b : ℕ) → par h (suc j) ≡ suc p → b ≤ p → climbed k h (suc j) G (suc b) ≡ climbed k h (suc p) (joint_inward k (h.joints (suc j)) G) (suc b)
  climbed_on j p G b e l =
      ascend_else j j G (suc b) (λ f. omega arith)
      ∙ ap (λ q. ascend j q (joint_inward k (h.joints (suc j)) G) (suc b)) e
      ∙ ascend_same j (suc p) (suc p) _ (suc b) (omega arith) (omega arith)

module _ {V N : Type 0} (k : CommRing N) (v : V → N) (h : Held N) (n a : ℕ) (F : Force V) (old : List V) where
  -- on the way, at joint suc j with the force G
  pub record Climbing (j : ℕ) (G : Force V) (new : List V) : Type 0 where
    pub low : j ≤ a
    pub done : (b : ℕ) → b ≤ a → j < b → Both v n new a b (climbed k h (suc a) (force v F) (suc b))
    pub clear : (b : ℕ) → b ≤ j → Both v n new a b k.zero
    pub ahead : (b : ℕ) → b ≤ j → climbed k h (suc a) (force v F) (suc b) ≡ climbed k h (suc j) (force v G) (suc b)
    pub others : (p q : ℕ) → p < n → q ≤ p → p ≢ a → Left n old new p q
    pub past : Past (n * n) old new

  pub climbing_starts : ((b : ℕ) → b ≤ a → Both v n old a b k.zero) → Climbing a F old
  climbing_starts clear =
      record {
        low = omega arith;
        done = λ b l m. absurd (omega arith);
        clear = clear;
        ahead = λ b l. refl;
        others = λ p q lp qp ne. record { here = λ d. refl; mirror = λ d. refl };
        past = λ j l d. refl;
      }

  -- the entry of joint suc j
  module _ (j : ℕ) (G : Force V) (new : List V) (c : Climbing j G new) (la : a < n) (room : n * n ≤ length new)
      (x : V) (e : v x ≡ pairing k (S k h (suc j)) (force v G)) where
    lj : j < n
    lj = let l = c.low in omega arith

    abbrev next : List V
    next = put n new a j x

    filled : (b : ℕ) → b ≤ a → j ≤ b → Both v n next a b (climbed k h (suc a) (force v F) (suc b))
    filled b l m = by (cases_eq b j)
      where
        by : (b ≡ j) ⊎ (b ≢ j) → Both v n next a b (climbed k h (suc a) (force v F) (suc b))
        by (inl q) =
            subst (λ b. Both v n next a b (climbed k h (suc a) (force v F) (suc b))) (sym q)
            (put_both n new a j x la lj room v _ (e ∙ sym (climbed_here k h j (force v G)) ∙ sym (c.ahead j (omega arith))))
        by (inr ne) =
            both_left v n new next a b _ (put_left n new a j x la lj room a b la l c.low (λ q. ne q.1))
            (c.done b l (omega arith))

    cleared : (b : ℕ) → b < j → Both v n next a b k.zero
    cleared b l =
        both_left v n new next a b _
        (put_left n new a j x la lj room a b la (let m = c.low in omega arith) c.low (λ q. let z = q.1 in omega arith)) (c.clear b (omega arith))

    kept : (p q : ℕ) → p < n → q ≤ p → p ≢ a → Left n old next p q
    kept p q lp qp ne =
        left_left n old new next p q (c.others p q lp qp ne) (put_left n new a j x la lj room p q lp qp c.low (λ z. ne z.0))

    beyond : Past (n * n) old next
    beyond i l d = put_past n new a j x la lj room i l d ∙ c.past i l d

    pub climbing_ends : par h (suc j) ≡ 0 → Climbs k v h n a F old next
    climbing_ends z =
        record {
          row = λ b l. by b l (dec_le j b);
          others = kept;
          past = beyond;
        }
      where
        by : (b : ℕ) → b ≤ a → Dec (j ≤ b) → Both v n next a b (climbed k h (suc a) (force v F) (suc b))
        by b l (yes m) = filled b l m
        by b l (no m) =
            both_is v n next a b k.zero _
            (sym (c.ahead b (omega arith) ∙ climbed_over k h j (force v G) b (omega arith) (omega arith)))
            (cleared b (omega arith))

    pub climbing_on :
        (p : ℕ) → par h (suc j) ≡ suc p → (G' : Force V) → force v G' ≡ joint_inward k (h.joints (suc j)) (force v G)
        → Climbing p G' next
    climbing_on p z G' e_g =
        record {
          low = let m = c.low in omega arith;
          done = λ b l m. by b l m (dec_le j b);
          clear = λ b l. cleared b (omega arith);
          ahead = λ b l.
              c.ahead b (omega arith) ∙ climbed_on k h j p (force v G) b z l
              ∙ ap (λ g. climbed k h (suc p) g (suc b)) (sym e_g);
          others = kept;
          past = beyond;
        }
      where
        by : (b : ℕ) → b ≤ a → p < b → Dec (j ≤ b) → Both v n next a b (climbed k h (suc a) (force v F) (suc b))
        by b l m (yes w) = filled b l w
        by b l m (no w) =
            both_is v n next a b k.zero _
            (sym (c.ahead b (omega arith) ∙ climbed_over k h j (force v G) b (omega arith) (omega arith)))
            (cleared b (omega arith))

  -- the same with the joint's number i as the code has it
  module _ (j i : ℕ) (at : i ≡ suc j) (G : Force V) (new : List V) (c : Climbing j G new) (la : a < n) (room : n * n ≤ length new)
      (x : V) (e : v x ≡ pairing k (S k h i) (force v G)) (p : ℕ) (q : p ≡ par h i) where
    there : v x ≡ pairing k (S k h (suc j)) (force v G)
    there = subst (λ i. v x ≡ pairing k (S k h i) (force v G)) at e

    up : p ≡ par h (suc j)
    up = q ∙ ap (par h) at

    pub climb_ends : p ≡ 0 → Climbs k v h n a F old (put n new a j x)
    climb_ends z = climbing_ends j G new c la room x there (sym up ∙ z)

    pub climb_on :
        (p ≡ 0 → ⊥) → (G' : Force V) → force v G' ≡ joint_inward k (h.joints i) (force v G)
        → Climbing (p - 1) G' (put n new a j x)
    climb_on ne G' e_g =
        let z : p ≡ suc (p - 1) = omega arith in
        climbing_on j G new c la room x there (p - 1) (sym up ∙ z) G' (e_g ∙ ap (λ i. joint_inward k (h.joints i) (force v G)) at)
