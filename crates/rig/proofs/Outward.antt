-- The turns of the outward walk.
use Rattle.std.proofs.Common.{◌≡◌, ℕ, zero, suc, ◌-◌, ◌<◌, ◌≤◌, ◌≢◌, ◌⊎◌, List, length, get_or, set, sym, ap, ◌∙◌, subst, ap₂, inl, inr, arith, get_or-set_other, get_or-set_same}
use Rattle.std.proofs.lemmas.Bool.{cases_eq}
use Rattle.ring.specs.CommRing.{CommRing}
use Rattle.motion.specs.Vectors.{motion, force, motion_add, motion_scale, motion_cross, force_add, force_cross}
use Rattle.joint.specs.Joints.{joint_outward}
use Rattle.dynamics.specs.Held.{Held, par}
use Rattle.dynamics.specs.Recursions.{S, own_inertia, spin, base, velocity, accelerated}
use Rattle.dynamics.specs.Tables.{NewtonEuler}
use Rattle.dynamics.specs.Laws.{own_force, joint_force}
use Rattle.dynamics.specs.Recursions as recursions
use Rattle.dynamics.proofs.Laws.{dynamics_laws}
use Rattle.rig.specs.declared.work.Moving.{Moving}
use Rattle.rig.specs.declared.work.Work.{Work}
use Rattle.inertia.specs.Inertias.{inertia, of_link}
use Rattle.rig.specs.Cells.{OwnInertias}
use Rattle.rig.specs.Moves.{BaseMoves, Follows, MovesTo, with_moving}

-- an entry of a list after one was set: as it was, or the one that was set
pub set_cases :
    {X : Type 0} (P : ℕ → X → Type 0) (xs : List X) (i : ℕ) (x : X) → i < length xs → P i x
    → (j : ℕ) (d : X) → (j ≢ i → P j (get_or xs j d)) → P j (get_or (set xs i x) j d)
set_cases P xs i x l at j d off = by (cases_eq j i)
  where
    by : (j ≡ i) ⊎ (j ≢ i) → P j (get_or (set xs i x) j d)
    by (inl e) = subst (λ m. P m (get_or (set xs i x) m d)) (sym e) (rw (get_or-set_same xs i x d l) at)
    by (inr ne) = rw (get_or-set_other xs i j x d ne) (off ne)

module _ {V N : Type 0} (k : CommRing N) (v : V → N) (h : Held N) where
  tables : NewtonEuler k h (velocity k h) (accelerated k h) (joint_force k h) (recursions.torques k h)
  tables = (dynamics_laws k).torques_tables h

  pub base_moves :
      (work : List (Work V)) (m : Moving V) (d : Work V) → BaseMoves k v h m → 0 < length work
      → MovesTo k v h 0 (set work 0 (with_moving m (get_or work 0 d)))
  base_moves work m d b l =
      record {
        velocities = λ i low d'.
            set_cases (λ j w. motion v w.moving.velocity ≡ velocity k h j) work 0 (with_moving m (get_or work 0 d)) l
            (b.velocity_is ∙ sym tables.velocity_base) i d' (λ ne. absurd (ne (omega arith)));
        accelerations = λ i low d'.
            set_cases (λ j w. motion v w.moving.acceleration ≡ accelerated k h j) work 0 (with_moving m (get_or work 0 d)) l
            (b.acceleration_is ∙ sym tables.acceleration_base) i d' (λ ne. absurd (ne (omega arith)));
        own_forces = λ i low d'. absurd (omega arith);
      }

  module _ (work : List (Work V)) (i : ℕ) (m : Moving V) (d d' : Work V) (l : i < h.n) (room : suc i < length work)
      (so_far : MovesTo k v h i work) (f : Follows k v h (suc i) (get_or work (par h (suc i)) d).moving m) where
    velocity_here : motion v m.velocity ≡ velocity k h (suc i)
    velocity_here =
        f.velocity_is
        ∙ ap (λ x. motion_add k (joint_outward k (h.joints (suc i)) x) (spin k h (suc i))) (so_far.velocities (par h (suc i)) (omega arith) d)
        ∙ sym (tables.velocity i l)

    acceleration_here : motion v m.acceleration ≡ accelerated k h (suc i)
    acceleration_here =
        f.acceleration_is
        ∙ ap₂
        (λ x y.
        motion_add k (motion_add k (joint_outward k (h.joints (suc i)) x) (motion_cross k y (spin k h (suc i))))
        (motion_scale k (h.acceleration (suc i)) (S k h (suc i))))
        (so_far.accelerations (par h (suc i)) (omega arith) d) velocity_here
        ∙ sym (tables.acceleration i l)

    force_here : force v m.force ≡ own_force k h (suc i)
    force_here =
        f.force_is
        ∙ ap₂ (λ x y. force_add k (own_inertia k h (suc i) x) (force_cross k y (own_inertia k h (suc i) y))) acceleration_here velocity_here

    abbrev new : Work V
    new = with_moving m (get_or work (suc i) d')

    moved_on : MovesTo k v h (suc i) (set work (suc i) new)
    moved_on =
        record {
          velocities = λ j low e.
              set_cases (λ j w. motion v w.moving.velocity ≡ velocity k h j) work (suc i) new room velocity_here j e
              (λ ne. so_far.velocities j (omega arith) e);
          accelerations = λ j low e.
              set_cases (λ j w. motion v w.moving.acceleration ≡ accelerated k h j) work (suc i) new room acceleration_here j e
              (λ ne. so_far.accelerations j (omega arith) e);
          own_forces = λ j low e.
              set_cases (λ j w. force v w.moving.force ≡ own_force k h j) work (suc i) new room force_here (suc j) e
              (λ ne. so_far.own_forces j (omega arith) e);
        }

  -- one turn, with the joint's number as the code has it
  pub moves_more :
      (work : List (Work V)) (i : ℕ) (m : Moving V) (d d' : Work V) → 0 < i → i ≤ h.n → i < length work
      → MovesTo k v h (i - 1) work → (p : ℕ) → p ≡ par h i → Follows k v h i (get_or work p d).moving m
      → (to : ℕ) → to ≡ i → MovesTo k v h to (set work i (with_moving m (get_or work i d')))
  moves_more work zero m d d' low le room so_far p e f to is = absurd (omega arith)
  moves_more work (suc j) m d d' low le room so_far p e f to is =
      let here : suc j - 1 ≡ j = omega arith in
      subst (λ a. MovesTo k v h a (set work (suc j) (with_moving m (get_or work (suc j) d')))) (sym is)
      (moved_on work j m d d' le room (subst (λ a. MovesTo k v h a work) here so_far) (subst (λ q. Follows k v h (suc j) (get_or work q d).moving m) e f))

  -- the same for the inertias of the joints' own links
  pub own_more :
      (work : List (Work V)) (i : ℕ) (w : Work V) → i < length work → inertia v w.inertia ≡ of_link k (h.links i)
      → OwnInertias k v h (i - 1) work → (m : ℕ) → m ≤ i → OwnInertias k v h m (set work i w)
  own_more work i w room here so_far m le j l d =
      set_cases (λ j w. inertia v w.inertia ≡ of_link k (h.links j)) work i w room here (suc j) d
      (λ ne. so_far j (omega arith) d)
