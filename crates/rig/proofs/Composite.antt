-- The turns of the walk over composite bodies.
use Rattle.std.proofs.Common.{◌≡◌, ℕ, zero, suc, ◌*◌, ◌<◌, ◌≤◌, ◌≢◌, ◌⊎◌, List, length, get_or, set, sym, refl, ap, ◌∙◌, subst, ap₂, inl, inr, arith}
use native.Mathlib.Decide.{dec_le}
use Rattle.std.proofs.lemmas.List.{get_or_default}
use Rattle.std.proofs.lemmas.Bool.{cases_eq}
use Rattle.ring.specs.CommRing.{CommRing}
use Rattle.motion.specs.Vectors.{force, force_add}
use Rattle.spatial.specs.Placements.{outward, inward}
use Rattle.motion.specs.declared.vectors.Motion.{Motion}
use Rattle.motion.specs.declared.vectors.Force.{Force}
use Rattle.inertia.specs.Inertias.{inertia, applied, inertia_add, carried}
use Rattle.inertia.specs.declared.inertia.Inertia.{Inertia}
use Rattle.joint.specs.Joints.{joint_outward, joint_inward, joint_carried}
use Rattle.joint.specs.declared.joint.Joint.{Joint}
use Rattle.spatial_laws.proofs.Laws.{link_is_inertia, sum_applied, carried_applied}
use Rattle.tree_laws.specs.Tree.{bump_op, next_k, when_on, when_off}
use Rattle.tree_laws.specs.Words.{composite, composite_off}
use Rattle.dynamics.specs.Held.{Held, par}
use Rattle.dynamics.specs.Modules.{motions, forces, power, tree}
use Rattle.dynamics.specs.Recursions.{S, own_inertia, masses}
use Rattle.dynamics.specs.Tables.{climbed}
use Rattle.dynamics.specs.Laws.{composites}
use Rattle.dynamics.proofs.Laws.{dynamics_laws}
use Rattle.rig.specs.declared.work.Work.{Work}
use Rattle.rig.specs.Cells.{cell, Both, Past, Zeros, Climbs, OwnInertias, with_inertia}
use Rattle.rig.specs.Shows.{Shown}
use Rattle.rig.proofs.Outward.{set_cases}
use Rattle.rig.proofs.Climb.{cell_below, both_left, both_is}
use Rattle.rig.proofs.Listed.{shown_rows}
use Rattle.dynamics.specs.Entries.{rows}

module _ {N : Type 0} (k : CommRing N) where
  -- X' K X, by both placements of a joint
  joint_carried_applied :
      (j : Joint N) (a : Inertia N) (m : Motion N)
      → applied k (joint_carried k j a) m ≡ joint_inward k j (applied k a (joint_outward k j m))
  joint_carried_applied j a m =
      carried_applied k j.fixed (carried k j.own a) m ∙ ap (inward k j.fixed) (carried_applied k j.own a (outward k j.fixed m))

module _ {N : Type 0} (k : CommRing N) (h : Held N) where
  abbrev Op : Type 0
  Op = Motion N → Force N

  abbrev compose : ℕ → (ℕ → Op) → ℕ → Op
  compose = composite k (motions k) (forces k) (power k) (tree k h)

  abbrev hand : ℕ → (ℕ → Op) → ℕ → Op
  hand = next_k k (motions k) (forces k) (power k) (tree k h)

  -- what is carried to the joints does not hang on the base's entry
  agree :
      (m n : ℕ) (K L : ℕ → Op) → m ≤ n → ((j : ℕ) → j < n → (x : Motion N) → K (suc j) x ≡ L (suc j) x)
      → (j : ℕ) → j < n → (x : Motion N) → compose m K (suc j) x ≡ compose m L (suc j) x
  unfolding composite next_k bump_op
  agree zero n K L le e j l x = e j l x
  agree (suc m) n K L le e j l x =
      agree m n _ _ (omega arith) (λ i b y. simp (bump_op, e i b y, e m le (joint_outward k (h.joints (suc m)) y))) j l x

  hand_at :
      (m : ℕ) (K : ℕ → Op) (x : Motion N)
      → hand m K (par h (suc m)) x
      ≡ force_add k (K (par h (suc m)) x) (joint_inward k (h.joints (suc m)) (K (suc m) (joint_outward k (h.joints (suc m)) x)))
  unfolding next_k bump_op
  hand_at m K x = ap (force_add k (K (par h (suc m)) x)) (when_on (forces k) (par h (suc m)) _)

  hand_off : (m : ℕ) (K : ℕ → Op) (j : ℕ) (x : Motion N) → j ≢ par h (suc m) → hand m K j x ≡ K j x
  unfolding next_k bump_op
  hand_off m K j x ne = ap (force_add k (K j x)) (when_off (forces k) j (par h (suc m)) _ ne) ∙ (forces k).plus_zer (K j x)

module _ {V N : Type 0} (k : CommRing N) (v : V → N) (h : Held N) (n : ℕ) (same : h.n ≡ n) where
  -- the inertias of a work list, as maps from motions to forces
  abbrev pub ops_of : Work V → List (Work V) → ℕ → Motion N → Force N
  ops_of d work j = applied k (inertia v (get_or work j d).inertia)

  -- with m joints still to come
  pub record Composing (m : ℕ) (work : List (Work V)) (old new : List V) : Type 0 where
    pub composed : (j : ℕ) → j < n → (d : Work V) (x : Motion N) → composite k (motions k) (forces k) (power k) (tree k h) m (ops_of d work) (suc j) x ≡ composites k h (suc j) x
    pub done : (a b : ℕ) → m ≤ a → a < n → b ≤ a → Both v n new a b (masses k h (suc a) (suc b))
    pub clear : (a b : ℕ) → a < m → b ≤ a → Both v n new a b k.zero
    pub past : Past (n * n) old new

  pub composing_all :
      (work : List (Work V)) (old : List V) → OwnInertias k v h n work → Zeros k v (n * n) old → Composing n work old old
  composing_all work old own zeros =
      record {
        composed = λ j l d x.
            subst (λ m. compose k h n (ops_of d work) (suc j) x ≡ composite k (motions k) (forces k) (power k) (tree k h) m (own_inertia k h) (suc j) x) (sym same)
            (agree k h n n (ops_of d work) (own_inertia k h) (omega arith)
            (λ i b y. ap (λ a. applied k a y) (own i b d) ∙ sym (link_is_inertia k (h.links (suc i)) y)) j l x);
        done = λ a b l m e. absurd (omega arith);
        clear = λ a b l m.
            record {
              here = λ d. zeros (cell n a b) (cell_below n a b l (omega arith)) d;
              mirror = λ d. zeros (cell n b a) (cell_below n b a (omega arith) l) d;
            };
        past = λ j l d. refl;
      }

  -- work' is work with the inertia of joint suc m handed to its parent
  abbrev pub HandedOn : ℕ → List (Work V) → List (Work V) → Type 0
  HandedOn m work work' =
      (j : ℕ) → j < n → (d : Work V) (x : Motion N)
      → ops_of d work' (suc j) x ≡ next_k k (motions k) (forces k) (power k) (tree k h) m (ops_of d work) (suc j) x

  composing_on :
      (m : ℕ) (work work' : List (Work V)) (old new new' : List V) (F : Force V) (d : Work V) → m < n
      → Composing (suc m) work old new → force v F ≡ ops_of d work (suc m) (S k h (suc m)) → Climbs k v h n m F new new'
      → HandedOn m work work' → Composing m work' old new'
  unfolding composite
  composing_on m work work' old new new' F d l c e climbs handed =
      record {
        composed = λ j b d x. agree k h m n _ _ (omega arith) (λ i a y. handed i a d y) j b x ∙ c.composed j b d x;
        done = λ a b q la ba. by a b q la ba (cases_eq a m);
        clear = λ a b la ba.
            both_left v n new new' a b _ (climbs.others a b (omega arith) ba (λ z. omega arith)) (c.clear a b (omega arith) ba);
        past = λ j b d. climbs.past j b d ∙ c.past j b d;
      }
    where
      column : force v F ≡ composites k h (suc m) (S k h (suc m))
      column =
          e
          ∙ sym (composite_off k (motions k) (forces k) (power k) (tree k h) (suc m) (ops_of d work) (suc m) (S k h (suc m)) (omega arith))
          ∙ c.composed m l d (S k h (suc m))

      by : (a b : ℕ) → m ≤ a → a < n → b ≤ a → (a ≡ m) ⊎ (a ≢ m) → Both v n new' a b (masses k h (suc a) (suc b))
      by a b q la ba (inl z) =
          subst (λ a. b ≤ a → Both v n new' a b (masses k h (suc a) (suc b))) (sym z)
          (λ ba.
          both_is v n new' m b _ _
          (ap (λ f. climbed k h (suc m) f (suc b)) column ∙ sym (((dynamics_laws k).masses_tables h).row m b (omega arith) ba))
          (climbs.row b ba)) ba
      by a b q la ba (inr ne) =
          both_left v n new new' a b _ (climbs.others a b la ba ne) (c.done a b (omega arith) la ba)

  handed_on :
      (m : ℕ) (work : List (Work V)) (a : Inertia V) (d e : Work V) → m < n → n < length work
      → inertia v a ≡ inertia_add k (inertia v (get_or work (par h (suc m)) d).inertia) (joint_carried k (h.joints (suc m)) (inertia v (get_or work (suc m) e).inertia))
      → HandedOn m work (set work (par h (suc m)) (with_inertia a (get_or work (par h (suc m)) d)))
  handed_on m work a d e l room is j b d' x =
      set_cases (λ j w. applied k (inertia v w.inertia) x ≡ hand k h m (ops_of d' work) j x) work (par h (suc m)) _ (omega arith)
      (ap (λ i. applied k i x) (is ∙ ap₂ (λ p q. inertia_add k p (joint_carried k (h.joints (suc m)) q)) (one (par h (suc m)) d (omega arith)) (one (suc m) e (omega arith)))
      ∙ sum_applied k _ _ x
      ∙ ap (force_add k (ops_of d' work (par h (suc m)) x)) (joint_carried_applied k (h.joints (suc m)) _ x)
      ∙ sym (hand_at k h m (ops_of d' work) x))
      (suc j) d' (λ ne. sym (hand_off k h m (ops_of d' work) (suc j) x ne))
    where
      one : (i : ℕ) (d : Work V) → i < length work → inertia v (get_or work i d).inertia ≡ inertia v (get_or work i d').inertia
      one i d l = ap (λ w. inertia v w.inertia) (get_or_default work i d d' l)

  -- the same with the joint's number i as the code has it
  module _ (m i : ℕ) (at : i ≡ suc m) (l : m < n) (work : List (Work V)) where
    -- to the base nothing is handed
    pub hands_none : (p : ℕ) → p ≡ par h i → p ≤ 0 → HandedOn m work work
    hands_none p q z j b d x =
        let e : par h (suc m) ≡ 0 = subst (λ y. par h y ≡ 0) at (sym q ∙ omega arith) in
        sym (hand_off k h m (ops_of d work) (suc j) x (λ f. let g : suc j ≡ 0 = f ∙ e in omega arith))

    pub hands_on :
        (p : ℕ) → p ≡ par h i → (a : Inertia V) (d e : Work V) → n < length work
        → inertia v a ≡ inertia_add k (inertia v (get_or work p d).inertia) (joint_carried k (h.joints i) (inertia v (get_or work i e).inertia))
        → HandedOn m work (set work p (with_inertia a (get_or work p d)))
    hands_on p q a d e room is =
        let r : p ≡ par h (suc m) = q ∙ ap (par h) at in
        subst (λ y. HandedOn m work (set work y (with_inertia a (get_or work y d)))) (sym r)
        (handed_on m work a d e l room
        (is ∙ ap₂ (λ y z. inertia_add k (inertia v (get_or work y d).inertia) (joint_carried k (h.joints z) (inertia v (get_or work z e).inertia))) r at))

    pub composes_on :
        (work' : List (Work V)) (old new new' : List V) (F : Force V) (d : Work V) (count : ℕ) → count ≡ suc m
        → Composing count work old new → force v F ≡ ops_of d work i (S k h i) → Climbs k v h n m F new new' → HandedOn m work work'
        → Composing m work' old new'
    composes_on work' old new new' F d count c inv e climbs handed =
        composing_on m work work' old new new' F d l (subst (λ j. Composing j work old new) c inv)
        (subst (λ j. force v F ≡ ops_of d work j (S k h j)) at e) climbs handed

  pub composed_all :
      (work : List (Work V)) (old new : List V) (m : ℕ) → m ≤ 0 → Composing m work old new → n * n ≤ length new → length new ≡ length old
      → Shown v (n * n) (rows n n (masses k h)) old new
  composed_all work old new m z c room long =
      shown_rows v n (masses k h) old new room long (λ a b la lb d. by a b la lb d (dec_le b a)) c.past
    where
      by : (a b : ℕ) → a < n → b < n → (d : V) → Dec (b ≤ a) → v (get_or new (cell n a b) d) ≡ masses k h (suc a) (suc b)
      by a b la lb d (yes q) = (c.done a b (omega arith) la q).here d
      by a b la lb d (no q) = (c.done b a (omega arith) lb (omega arith)).mirror d ∙ (dynamics_laws k).masses_mirror h (suc b) (suc a)
