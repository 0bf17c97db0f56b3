-- The three recursions for what a rig holds.
use Rattle.std.specs.Prelude.{ℕ, zero, suc}
use Rattle.ring.specs.CommRing.{CommRing}
use Rattle.triple.specs.Ops.{ops}
use Rattle.triple.specs.Triples.{zero3, neg3}
use Rattle.motion.specs.Vectors.{motion_zero, motion_add, motion_scale, motion_cross, force_cross}
use Rattle.spatial.specs.Links.{momentum}
use Rattle.motion.specs.declared.vectors.Motion.{Motion}
use Rattle.motion.specs.declared.vectors.Force.{Force}
use Rattle.joint.specs.Joints.{axis, joint_outward}
use Rattle.tree_laws.specs.Tree.{torque, mass, outward, aba}
use Rattle.tree_laws.specs.Tree.{Outcome as Ended, refused as ended_at, found as ended_with}
use Rattle.dynamics.specs.Held.{Held, par}
use Rattle.dynamics.specs.Modules.{motions, forces, power, tree}

-- accelerations, or the joint whose pivot is no unit
pub data Outcome (N : Type 0) : Type 0 where
  refused : ℕ → Outcome N
  found : (ℕ → N) → Outcome N

module _ {N : Type 0} (k : CommRing N) (h : Held N) where
  abbrev pub S : ℕ → Motion N
  S i = axis k (h.joints i).kind

  -- Iᵢ of the link itself
  abbrev pub own_inertia : ℕ → Motion N → Force N
  own_inertia i = momentum k (h.links i)

  -- S q̇ᵢ
  abbrev pub spin : ℕ → Motion N
  spin i = motion_scale k (h.rate i) (S i)

  -- vᵢ = Xᵢ vₚ + S q̇ᵢ, and v₀ = 0; the first number bounds the depth
  abbrev pub velocity_within : ℕ → ℕ → Motion N
  velocity_within d zero = motion_zero k
  velocity_within zero (suc i) = motion_zero k
  velocity_within (suc d) (suc i) =
      motion_add k (joint_outward k (h.joints (suc i)) (velocity_within d (par h (suc i)))) (spin (suc i))

  abbrev pub velocity : ℕ → Motion N
  velocity i = velocity_within i i

  -- cᵢ = vᵢ × S q̇ᵢ
  abbrev pub drift : ℕ → Motion N
  drift i = motion_cross k (velocity i) (spin i)

  -- vᵢ ×* Iᵢ vᵢ
  abbrev pub bias : ℕ → Force N
  bias i = force_cross k (velocity i) (own_inertia i (velocity i))

  -- a₀ = (0; −g)
  abbrev pub base : ℕ → Motion N
  base i = record { angular = zero3 (ops k); linear = neg3 (ops k) h.gravity }

  -- aᵢ = Xᵢ aₚ + S q̈ᵢ + cᵢ, outward from the base
  abbrev pub accelerated : ℕ → Motion N
  accelerated = outward k (motions k) (forces k) (power k) (tree k h) drift base h.acceleration h.n

  -- S · fᵢ, where fᵢ = Iᵢ aᵢ + vᵢ ×* Iᵢ vᵢ plus Xₖ' fₖ for each child k
  abbrev pub torques : ℕ → N
  torques = torque k (motions k) (forces k) (power k) (tree k h) h.n own_inertia bias accelerated

  -- the mass matrix, by composite inertias and steps to the parent
  abbrev pub masses : ℕ → ℕ → N
  masses = mass k (motions k) (forces k) (power k) (tree k h) h.n own_inertia

  abbrev pub articulated : Ended k (motions k) (forces k) (power k) (tree k h)
  articulated =
      aba k (motions k) (forces k) (power k) (tree k h) drift base k.inverse h.n own_inertia bias h.force

  abbrev pub outcome : Ended k (motions k) (forces k) (power k) (tree k h) → Outcome N
  outcome (ended_at i) = refused i
  outcome (ended_with q a) = found q

  -- the accelerations of the articulated bodies, or the highest joint whose pivot is no unit
  abbrev pub accelerations : Outcome N
  accelerations = outcome articulated
