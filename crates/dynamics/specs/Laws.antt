-- What the recursions promise, in every ring.
use Rattle.std.specs.Prelude.{◌≡◌, ℕ, suc, ◌<◌, ◌≤◌}
use Rattle.ring.specs.CommRing.{CommRing}
use Rattle.tree_laws.specs.Tree.{sum, Desc, unit_at, inward}
use Rattle.tree_laws.specs.Words.{composite}
use Rattle.motion.specs.Vectors.{force_add}
use Rattle.motion.specs.declared.vectors.Motion.{Motion}
use Rattle.motion.specs.declared.vectors.Force.{Force}
use Rattle.dynamics.specs.Held.{Held, held, moving}
use Rattle.dynamics.specs.Modules.{motions, forces, power, tree}
use Rattle.dynamics.specs.Recursions.{Outcome, refused, found, own_inertia, velocity, bias, accelerated, torques, masses, accelerations}
use Rattle.dynamics.specs.Tables.{NewtonEuler, CompositeBodies, ArticulatedBodies, RefusedBody}

module _ {N : Type 0} (k : CommRing N) where
  -- the sum of f over the joints 1 to n
  abbrev pub over_joints : Held N → (ℕ → N) → N
  over_joints h f = sum k (motions k) (forces k) (power k) (tree k h) h.n f

  -- no accelerations
  abbrev pub still : Held N → Held N
  still h = moving h (λ _. k.zero)

  -- i carries j: j is i, or i carries the parent of j
  abbrev pub Carries : Held N → ℕ → ℕ → Type 0
  Carries h i j = Desc k (motions k) (forces k) (power k) (tree k h) i j

  -- the accelerations q have the torques f
  abbrev pub Has : Held N → (ℕ → N) → (ℕ → N) → Type 0
  Has h q f = (i : ℕ) → i < h.n → torques k (moving h q) (suc i) ≡ f (suc i)

  -- the branch matrix of j gives the torques y: it makes them of some accelerations of the branch, which is all that j carries
  pub record Gives (h : Held N) (j : ℕ) (y : ℕ → N) : Type 0 where
    pub by : ℕ → N
    pub off : (i : ℕ) → (Carries h j i → ⊥) → by i ≡ k.zero
    pub gives : (i : ℕ) → i < h.n → Carries h j (suc i) → over_joints h (λ l. k.mul (masses k h (suc i) l) (by l)) ≡ y (suc i)

  -- the torque one at joint j, and zero at all others
  abbrev pub unit_torque : Held N → ℕ → ℕ → N
  unit_torque h = unit_at k (motions k) (forces k) (power k) (tree k h)

  -- j is the highest joint whose branch matrix cannot give some torques
  pub record Highest (h : Held N) (j : ℕ) : Type 0 where
    pub low : 0 < j
    pub high : j ≤ h.n
    pub here : (y : ℕ → N) × (Gives h j y → ⊥)
    pub above : (i : ℕ) → j < i → i ≤ h.n → (y : ℕ → N) → Gives h i y

  -- accelerations that are found have the held forces as torques, and no others do; else the refused joint is the highest,
  -- and what its branch matrix cannot give is the unit torque at that joint
  abbrev pub Settles : Held N → Outcome N → Type 0
  Settles h (found q) =
      Has h q h.force × ((q' : ℕ → N) → Has h q' h.force → (i : ℕ) → i < h.n → q' (suc i) ≡ q (suc i))
  Settles h (refused j) = Highest h j × (Gives h j (unit_torque h j) → ⊥)

  -- Iᵢ aᵢ + vᵢ ×* Iᵢ vᵢ
  abbrev pub own_force : Held N → ℕ → Force N
  own_force h i = force_add k (own_inertia k h i (accelerated k h i)) (bias k h i)

  -- fᵢ, by the loop from n down to 1 that adds each to its parent's
  abbrev pub joint_force : Held N → ℕ → Force N
  joint_force h = inward k (motions k) (forces k) (power k) (tree k h) h.n (own_force h)

  -- Kᵢ, by the same loop
  abbrev pub composites : Held N → ℕ → Motion N → Force N
  composites h = composite k (motions k) (forces k) (power k) (tree k h) h.n (own_inertia k h)

  -- accelerations that are found come from tables of articulated bodies; else the refused joint is where they stop
  abbrev pub Articulated : Held N → Outcome N → Type 0
  Articulated h (found q) =
      (A : ℕ → Motion N → Force N) × (b : ℕ → Force N) × (d : ℕ → N) × (a : ℕ → Motion N) × ArticulatedBodies k h A b d q a
  Articulated h (refused j) = (A : ℕ → Motion N → Force N) × (d : ℕ → N) × RefusedBody k h A d j

  -- what is found is q, at the joints 1 to n
  abbrev pub Finds : Held N → (ℕ → N) → Outcome N → Type 0
  Finds h q (found p) = (i : ℕ) → i < h.n → q (suc i) ≡ p (suc i)
  Finds h q (refused j) = ⊥

  pub record DynamicsLaws : Type 0 where
    -- the loops make the tables of Newton and Euler, and no other tables have other torques
    pub torques_tables : (h : Held N) → NewtonEuler k h (velocity k h) (accelerated k h) (joint_force h) (torques k h)
    pub torques_only :
        (h : Held N) (v a : ℕ → Motion N) (f : ℕ → Force N) (τ : ℕ → N) → NewtonEuler k h v a f τ
        → (i : ℕ) → i < h.n → τ (suc i) ≡ torques k h (suc i)
    -- the loops make the tables of composite bodies, and no other tables have another matrix
    pub masses_tables : (h : Held N) → CompositeBodies k h (composites h) (masses k h)
    pub masses_only :
        (h : Held N) (K : ℕ → Motion N → Force N) (H : ℕ → ℕ → N) → CompositeBodies k h K H
        → (i j : ℕ) → i < h.n → j < h.n → H (suc i) (suc j) ≡ masses k h (suc i) (suc j)
    -- the loops end as the tables of articulated bodies do, with the same accelerations or the same refused joint
    pub accelerations_tables : (h : Held N) → Articulated h (accelerations k h)
    pub accelerations_only :
        (h : Held N) (A : ℕ → Motion N → Force N) (b : ℕ → Force N) (d q : ℕ → N) (a : ℕ → Motion N)
        → ArticulatedBodies k h A b d q a → Finds h q (accelerations k h)
    pub refused_only : (h : Held N) (A : ℕ → Motion N → Force N) (d : ℕ → N) (j : ℕ) → RefusedBody k h A d j → accelerations k h ≡ refused j
    -- torques are the mass matrix times the accelerations, plus the torques of zero accelerations
    pub torques_split :
        (h : Held N) (i : ℕ) → i < h.n
        → torques k h (suc i)
        ≡ k.add (over_joints h (λ j. k.mul (masses k h (suc i) j) (h.acceleration j))) (torques k (still h) (suc i))
    -- the matrix equals its mirror image
    pub masses_mirror : (h : Held N) (i j : ℕ) → masses k h i j ≡ masses k h j i
    -- entries of joints of which neither carries the other are zero
    pub masses_apart :
        (h : Held N) (i j : ℕ) → i ≤ h.n → j ≤ h.n → (Carries h i j → ⊥) → (Carries h j i → ⊥) → masses k h i j ≡ k.zero
    pub accelerations_settle : (h : Held N) → Settles h (accelerations k h)
    -- no other joint than the refused one is the highest such joint
    pub highest_refused : (h : Held N) (j : ℕ) → Highest h j → accelerations k h ≡ refused j

-- φ taken number by number
abbrev pub outcome_map : {N M : Type 0} → (N → M) → Outcome N → Outcome M
outcome_map φ (refused j) = refused j
outcome_map φ (found q) = found (λ i. φ (q i))

-- the recursions commute with φ, refusals included
pub record DynamicsMap {N M : Type 0} (k : CommRing N) (l : CommRing M) (φ : N → M) : Type 0 where
  pub torques_map : (h : Held N) (i : ℕ) → φ (torques k h i) ≡ torques l (held φ h) i
  pub masses_map : (h : Held N) (i j : ℕ) → φ (masses k h i j) ≡ masses l (held φ h) i j
  pub accelerations_map : (h : Held N) → outcome_map φ (accelerations k h) ≡ accelerations l (held φ h)
