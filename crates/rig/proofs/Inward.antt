-- The turns of the inward walk.
use Rattle.std.proofs.Common.{◌≡◌, ℕ, zero, suc, ◌<◌, ◌≤◌, ◌≢◌, List, length, get_or, set, sym, refl, ap, ◌∙◌, subst, ap₂, arith, get_or-set_other}
use Rattle.std.proofs.lemmas.List.{get_or_default}
use Rattle.ring.specs.CommRing.{CommRing}
use Rattle.motion.specs.Vectors.{force, force_add, pairing}
use Rattle.motion.specs.declared.vectors.Force.{Force}
use Rattle.joint.specs.Joints.{joint_inward}
use Rattle.tree_laws.specs.Tree.{inward, bump, bump_off, when_on, untouched}
use Rattle.dynamics.specs.Held.{Held, par}
use Rattle.dynamics.specs.Modules.{motions, forces, power, tree}
use Rattle.dynamics.specs.Recursions.{S, torques}
use Rattle.dynamics.specs.Laws.{own_force, joint_force}
use Rattle.dynamics.proofs.Laws.{dynamics_laws}
use Rattle.rig.specs.declared.work.Work.{Work}
use Rattle.rig.specs.Moves.{MovesTo, with_carried}
use Rattle.rig.proofs.Outward.{set_cases}

module _ {N : Type 0} (k : CommRing N) (h : Held N) where
  -- the inward loop over a table of forces, from joint m on
  abbrev pub carry : ℕ → (ℕ → Force N) → ℕ → Force N
  carry = inward k (motions k) (forces k) (power k) (tree k h)

  -- what is carried to the joints does not hang on the base's entry
  agree :
      (m n : ℕ) (f g : ℕ → Force N) → m ≤ n → ((j : ℕ) → j < n → f (suc j) ≡ g (suc j))
      → (j : ℕ) → j < n → carry m f (suc j) ≡ carry m g (suc j)
  unfolding inward bump
  agree zero n f g le e j l = e j l
  agree (suc m) n f g le e j l =
      agree m n _ _ (omega arith) (λ i b. simp (bump, e i b, e m le)) j l

  -- a turn: joint suc m hands its force to its parent
  unfoldable pub turn : ℕ → (ℕ → Force N) → ℕ → Force N
  turn m f = bump (forces k) f (par h (suc m)) (joint_inward k (h.joints (suc m)) (f (suc m)))

  carry_turn : (m n : ℕ) (f g : ℕ → Force N) → suc m ≤ n → ((j : ℕ) → j < n → g (suc j) ≡ turn m f (suc j)) → (j : ℕ) → j < n → carry m g (suc j) ≡ carry (suc m) f (suc j)
  unfolding inward turn
  carry_turn m n f g le e j l = agree m n g (turn m f) (omega arith) e j l

  turn_at : (m : ℕ) (f : ℕ → Force N) → turn m f (par h (suc m)) ≡ force_add k (f (par h (suc m))) (joint_inward k (h.joints (suc m)) (f (suc m)))
  unfolding bump turn
  turn_at m f = ap (force_add k (f (par h (suc m)))) (when_on (forces k) (par h (suc m)) _)

  turn_off : (m : ℕ) (f : ℕ → Force N) (j : ℕ) → j ≢ par h (suc m) → turn m f j ≡ f j
  unfolding turn
  turn_off m f j ne = bump_off (forces k) f j (par h (suc m)) _ ne

  untouched_top : (m : ℕ) (f : ℕ → Force N) → carry (suc m) f (suc m) ≡ f (suc m)
  untouched_top m f = untouched k (motions k) (forces k) (power k) (tree k h) (suc m) f (suc m) (omega arith)

module _ {V N : Type 0} (k : CommRing N) (v : V → N) (h : Held N) (n : ℕ) (same : h.n ≡ n) where
  -- the forces of a work list
  abbrev pub tab : Work V → List (Work V) → ℕ → Force N
  tab d work j = force v (get_or work j d).moving.force

  -- with m joints still to come
  pub record Carrying (m : ℕ) (work : List (Work V)) (old new : List V) : Type 0 where
    pub carried : (j : ℕ) → j < n → (d : Work V) → carry k h m (tab d work) (suc j) ≡ joint_force k h (suc j)
    pub told : (j : ℕ) → m ≤ j → j < n → (d : V) → v (get_or new j d) ≡ torques k h (suc j)
    pub rest : (j : ℕ) → n ≤ j → (d : V) → get_or new j d ≡ get_or old j d

  pub carrying_all : (work : List (Work V)) (old : List V) → MovesTo k v h n work → Carrying n work old old
  carrying_all work old moves =
      record {
        carried = λ j l d.
            subst (λ m. carry k h n (tab d work) (suc j) ≡ inward k (motions k) (forces k) (power k) (tree k h) m (own_force k h) (suc j)) (sym same)
            (agree k h n n (tab d work) (own_force k h) (omega arith) (λ i b. moves.own_forces i b d) j l);
        told = λ j a b d. absurd (omega arith);
        rest = λ j a d. refl;
      }

  -- one turn: work' is work with the force of joint suc m handed to its parent
  abbrev pub HandedOn : ℕ → List (Work V) → List (Work V) → Type 0
  HandedOn m work work' = (j : ℕ) → j < n → (d : Work V) → tab d work' (suc j) ≡ turn k h m (tab d work) (suc j)

  carrying_on :
      (m : ℕ) (work work' : List (Work V)) (old new : List V) (x : V) (d : Work V) → m < n → m < length new
      → Carrying (suc m) work old new → v x ≡ pairing k (S k h (suc m)) (tab d work (suc m)) → HandedOn m work work'
      → Carrying m work' old (set new m x)
  carrying_on m work work' old new x d l room c e handed =
      record {
        carried = λ j b d. carry_turn k h m n (tab d work) (tab d work') l (λ i a. handed i a d) j b ∙ c.carried j b d;
        told = λ j a b d. set_cases (λ j y. v y ≡ torques k h (suc j)) new m x room here j d (λ ne. c.told j (omega arith) b d);
        rest = λ j a d. get_or-set_other new m j x d (omega arith) ∙ c.rest j a d;
      }
    where
      here : v x ≡ torques k h (suc m)
      here =
          e
          ∙ ap (pairing k (S k h (suc m))) (sym (untouched_top k h m (tab d work)) ∙ c.carried m l d)
          ∙ sym (((dynamics_laws k).torques_tables h).torque m (omega arith))

  handed_on :
      (m : ℕ) (work : List (Work V)) (f : Force V) (d e : Work V) → m < n → n < length work
      → force v f ≡ force_add k (tab d work (par h (suc m))) (joint_inward k (h.joints (suc m)) (tab e work (suc m)))
      → HandedOn m work (set work (par h (suc m)) (with_carried f (get_or work (par h (suc m)) d)))
  handed_on m work f d e l room is j b d' =
      set_cases (λ j w. force v w.moving.force ≡ turn k h m (tab d' work) j) work (par h (suc m)) _ (omega arith)
      (is ∙ ap₂ (λ x y. force_add k x (joint_inward k (h.joints (suc m)) y)) (one (par h (suc m)) d (omega arith)) (one (suc m) e (omega arith)) ∙ sym (turn_at k h m (tab d' work)))
      (suc j) d' (λ ne. sym (turn_off k h m (tab d' work) (suc j) ne))
    where
      one : (i : ℕ) (d : Work V) → i < length work → tab d work i ≡ tab d' work i
      one i d l = ap (λ w. force v w.moving.force) (get_or_default work i d d' l)

  -- the same with the joint's number i as the code has it
  module _ (m i : ℕ) (at : i ≡ suc m) (l : m < n) (work : List (Work V)) where
    -- to the base nothing is handed
    pub hands_none : (p : ℕ) → p ≡ par h i → p ≤ 0 → HandedOn m work work
    hands_none p q z j b d =
        let e : par h (suc m) ≡ 0 = subst (λ x. par h x ≡ 0) at (sym q ∙ omega arith) in
        sym (turn_off k h m (tab d work) (suc j) (λ f. let g : suc j ≡ 0 = f ∙ e in omega arith))

    pub hands_on :
        (p : ℕ) → p ≡ par h i → (f : Force V) (d e : Work V) → n < length work
        → force v f ≡ force_add k (tab d work p) (joint_inward k (h.joints i) (tab e work i))
        → HandedOn m work (set work p (with_carried f (get_or work p d)))
    hands_on p q f d e room is =
        let r : p ≡ par h (suc m) = q ∙ ap (par h) at in
        subst (λ x. HandedOn m work (set work x (with_carried f (get_or work x d)))) (sym r)
        (handed_on m work f d e l room
        (is ∙ ap₂ (λ x y. force_add k (tab d work x) (joint_inward k (h.joints y) (tab e work y))) r at))

    pub carries_on :
        (work' : List (Work V)) (old new : List V) (x : V) (d : Work V) (count : ℕ) → count ≡ suc m → m < length new
        → Carrying count work old new → v x ≡ pairing k (S k h i) (tab d work i) → HandedOn m work work'
        → Carrying m work' old (set new m x)
    carries_on work' old new x d count c room inv e handed =
        carrying_on m work work' old new x d l room (subst (λ j. Carrying j work old new) c inv)
        (subst (λ j. v x ≡ pairing k (S k h j) (tab d work j)) at e) handed
