-- What the outward walk leaves of the joints' motions.
use Rattle.std.specs.Prelude.{◌≡◌, ℕ, suc, ◌<◌, ◌≤◌, List, slice_index_or}
use Rattle.ring.specs.CommRing.{CommRing}
use Rattle.motion.specs.Vectors.{motion, force, motion_zero, motion_add, motion_scale, motion_cross, force_add, force_cross}
use Rattle.motion.specs.declared.vectors.Force.{Force}
use Rattle.joint.specs.Joints.{joint_outward}
use Rattle.dynamics.specs.Held.{Held}
use Rattle.dynamics.specs.Recursions.{S, own_inertia, spin, base, velocity, accelerated}
use Rattle.dynamics.specs.Laws.{own_force}
use Rattle.rig.specs.declared.work.Moving.{Moving}
use Rattle.rig.specs.declared.work.Work.{Work}

module _ {V N : Type 0} (k : CommRing N) (v : V → N) (h : Held N) where
  pub record BaseMoves (m : Moving V) : Type 0 where
    pub velocity_is : motion v m.velocity ≡ motion_zero k
    pub acceleration_is : motion v m.acceleration ≡ base k h 0

  -- joint i moves as m where its parent moves as p
  pub record Follows (i : ℕ) (p m : Moving V) : Type 0 where
    pub velocity_is :
        motion v m.velocity ≡ motion_add k (joint_outward k (h.joints i) (motion v p.velocity)) (spin k h i)
    pub acceleration_is :
        motion v m.acceleration
        ≡ motion_add k
        (motion_add k (joint_outward k (h.joints i) (motion v p.acceleration)) (motion_cross k (motion v m.velocity) (spin k h i)))
        (motion_scale k (h.acceleration i) (S k h i))
    pub force_is :
        force v m.force
        ≡ force_add k (own_inertia k h i (motion v m.acceleration))
        (force_cross k (motion v m.velocity) (own_inertia k h i (motion v m.velocity)))

  -- the entries 0 to m of the work list have the velocities and accelerations, and the entries 1 to m the forces that
  -- the joints' own links want
  pub record MovesTo (m : ℕ) (work : List (Work V)) : Type 0 where
    pub velocities : (i : ℕ) → i ≤ m → (d : Work V) → motion v (slice_index_or work i d).moving.velocity ≡ velocity k h i
    pub accelerations : (i : ℕ) → i ≤ m → (d : Work V) → motion v (slice_index_or work i d).moving.acceleration ≡ accelerated k h i
    pub own_forces : (i : ℕ) → i < m → (d : Work V) → force v (slice_index_or work (suc i) d).moving.force ≡ own_force k h (suc i)

abbrev pub with_moving : {V : Type 0} → Moving V → Work V → Work V
with_moving m w = record { moving = m; inertia = w.inertia }

abbrev pub with_carried : {V : Type 0} → Force V → Work V → Work V
with_carried f w =
    record {
      moving = record { velocity = w.moving.velocity; acceleration = w.moving.acceleration; force = f };
      inertia = w.inertia;
    }
