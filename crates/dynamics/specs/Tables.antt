-- The algorithms as tables over the joints 1 to n: what each line says of each joint.
use Rattle.std.specs.Prelude.{◌≡◌, ℕ, suc, ◌<◌, ◌≤◌, Some, None}
use Rattle.ring.specs.CommRing.{CommRing}
use Rattle.tree_laws.specs.Children.{children}
use Rattle.tree_laws.specs.Words.{climb}
use Rattle.triple.specs.Ops.{ops}
use Rattle.triple.specs.Triples.{zero3, neg3}
use Rattle.motion.specs.Vectors.{motion_zero, motion_add, motion_scale, motion_cross, force_add, force_scale, force_cross, pairing}
use Rattle.motion.specs.declared.vectors.Motion.{Motion}
use Rattle.motion.specs.declared.vectors.Force.{Force}
use Rattle.joint.specs.Joints.{joint_outward}
use Rattle.dynamics.specs.Held.{Held, par}
use Rattle.dynamics.specs.Modules.{motions, forces, power, tree}
use Rattle.dynamics.specs.Recursions.{S, own_inertia, spin, drift, bias}

module _ {N : Type 0} (k : CommRing N) (h : Held N) where
  -- Xᵢ of what the parent of i has
  abbrev pub from_parent : (ℕ → Motion N) → ℕ → Motion N
  from_parent m i = joint_outward k (h.joints i) (m (par h i))

  -- the sum of Xⱼ' f j over the children j of i
  abbrev pub from_children : ℕ → (ℕ → Force N) → Force N
  from_children = children k (motions k) (forces k) (power k) (tree k h) h.n

  -- the force F at joint i, stepped to the parent until it comes to joint j, and paired with S there; zero if it does not
  abbrev pub climbed : ℕ → Force N → ℕ → N
  climbed i F j = climb k (motions k) (forces k) (power k) (tree k h) i i F j

  -- the recursive Newton-Euler algorithm: velocities v, accelerations a, forces f, torques τ
  pub record NewtonEuler (v a : ℕ → Motion N) (f : ℕ → Force N) (τ : ℕ → N) : Type 0 where
    -- v₀ = 0, and vᵢ = Xᵢ vₚ + S q̇ᵢ
    pub velocity_base : v 0 ≡ motion_zero k
    pub velocity : (i : ℕ) → i < h.n → v (suc i) ≡ motion_add k (from_parent v (suc i)) (spin k h (suc i))
    -- a₀ = (0; −g), and aᵢ = Xᵢ aₚ + vᵢ × S q̇ᵢ + S q̈ᵢ
    pub acceleration_base : a 0 ≡ record { angular = zero3 (ops k); linear = neg3 (ops k) h.gravity }
    pub acceleration :
        (i : ℕ) → i < h.n
        → a (suc i)
        ≡ motion_add k
        (motion_add k (from_parent a (suc i)) (motion_cross k (v (suc i)) (spin k h (suc i))))
        (motion_scale k (h.acceleration (suc i)) (S k h (suc i)))
    -- fᵢ = Iᵢ aᵢ + vᵢ ×* Iᵢ vᵢ + Xⱼ' fⱼ for each child j
    pub force :
        (i : ℕ) → i < h.n
        → f (suc i)
        ≡ force_add k
        (force_add k (own_inertia k h (suc i) (a (suc i))) (force_cross k (v (suc i)) (own_inertia k h (suc i) (v (suc i)))))
        (from_children (suc i) f)
    -- τᵢ = S · fᵢ
    pub torque : (i : ℕ) → i < h.n → τ (suc i) ≡ pairing k (S k h (suc i)) (f (suc i))

  -- the composite-rigid-body algorithm: composite inertias K, mass matrix H
  pub record CompositeBodies (K : ℕ → Motion N → Force N) (H : ℕ → ℕ → N) : Type 0 where
    -- Kᵢ = Iᵢ + Xⱼ' Kⱼ Xⱼ for each child j
    pub composite :
        (i : ℕ) → i < h.n → (m : Motion N)
        → K (suc i) m
        ≡ force_add k (own_inertia k h (suc i) m) (from_children (suc i) (λ j. K j (joint_outward k (h.joints j) m)))
    -- F = Kᵢ S, entry (i, i) is S · F, and each step to the parent gives the next entry of the row
    pub row :
        (i j : ℕ) → i < h.n → j ≤ i
        → H (suc i) (suc j) ≡ climbed (suc i) (K (suc i) (S k h (suc i))) (suc j)
    -- entry (j, i) is entry (i, j)
    pub mirror : (i j : ℕ) → i < h.n → j ≤ i → H (suc j) (suc i) ≡ H (suc i) (suc j)

  -- of a joint i with articulated inertia A, bias b and inverse pivot d: U = Aᵢ S
  abbrev pub U : (ℕ → Motion N → Force N) → ℕ → Force N
  U A i = A i (S k h i)

  -- D = S · U, the pivot
  abbrev pub D : (ℕ → Motion N → Force N) → ℕ → N
  D A i = pairing k (S k h i) (U A i)

  -- u = τᵢ − S · bᵢ
  abbrev pub u : (ℕ → Force N) → ℕ → N
  u b i = k.add (h.force i) (k.neg (pairing k (S k h i) (b i)))

  -- (Aᵢ − U D⁻¹ Uᵀ) m
  abbrev pub apart : (ℕ → Motion N → Force N) → (ℕ → N) → ℕ → Motion N → Force N
  apart A d i m = force_add k (A i m) (force_scale k (k.mul (d i) (k.neg (pairing k m (U A i)))) (U A i))

  -- bᵢ + (Aᵢ − U D⁻¹ Uᵀ) cᵢ + U D⁻¹ u
  abbrev pub pushed : (ℕ → Motion N → Force N) → (ℕ → Force N) → (ℕ → N) → ℕ → Force N
  pushed A b d i = force_add k (force_add k (b i) (apart A d i (drift k h i))) (force_scale k (k.mul (d i) (u b i)) (U A i))

  -- the articulated-body algorithm: articulated inertias A, biases b, inverse pivots d, accelerations q, motions a
  pub record ArticulatedBodies (A : ℕ → Motion N → Force N) (b : ℕ → Force N) (d q : ℕ → N) (a : ℕ → Motion N) : Type 0 where
    -- Aᵢ = Iᵢ + Xⱼ' (Aⱼ − U D⁻¹ Uᵀ) Xⱼ for each child j
    pub inertia :
        (i : ℕ) → i < h.n → (m : Motion N)
        → A (suc i) m
        ≡ force_add k (own_inertia k h (suc i) m) (from_children (suc i) (λ j. apart A d j (joint_outward k (h.joints j) m)))
    -- bᵢ = vᵢ ×* Iᵢ vᵢ + Xⱼ' (bⱼ + (Aⱼ − U D⁻¹ Uᵀ) cⱼ + U D⁻¹ u) for each child j
    pub bias_force :
        (i : ℕ) → i < h.n → b (suc i) ≡ force_add k (bias k h (suc i)) (from_children (suc i) (λ j. pushed A b d j))
    -- D = S · U is a unit, and d is D⁻¹
    pub pivot : (i : ℕ) → i < h.n → k.inverse (D A (suc i)) ≡ Some (d (suc i))
    -- a₀ = (0; −g), and with w = Xᵢ aₚ + cᵢ, q̈ᵢ = D⁻¹ (u − U · w) and aᵢ = w + S q̈ᵢ
    pub acceleration_base : a 0 ≡ record { angular = zero3 (ops k); linear = neg3 (ops k) h.gravity }
    pub joint :
        (i : ℕ) → i < h.n
        → q (suc i)
        ≡ k.mul (d (suc i))
        (k.add (u b (suc i)) (k.neg (pairing k (motion_add k (from_parent a (suc i)) (drift k h (suc i))) (U A (suc i)))))
    pub acceleration :
        (i : ℕ) → i < h.n
        → a (suc i)
        ≡ motion_add k (motion_add k (from_parent a (suc i)) (drift k h (suc i))) (motion_scale k (q (suc i)) (S k h (suc i)))

  -- the same down to a joint j whose pivot is no unit, where it stops
  pub record RefusedBody (A : ℕ → Motion N → Force N) (d : ℕ → N) (j : ℕ) : Type 0 where
    pub low : 0 < j
    pub high : j ≤ h.n
    -- Aᵢ, for joint j and the joints above it
    pub inertia :
        (i : ℕ) → j ≤ i → i ≤ h.n → (m : Motion N)
        → A i m ≡ force_add k (own_inertia k h i m) (from_children i (λ l. apart A d l (joint_outward k (h.joints l) m)))
    -- the pivots above j are units, and that of j is none
    pub pivot : (i : ℕ) → j < i → i ≤ h.n → k.inverse (D A i) ≡ Some (d i)
    pub no_unit : k.inverse (D A j) ≡ None
