-- Rigs whose figures are known.
use Rattle.std.specs.Prelude.{ℕ, List, [], ◌∷◌, pos, negsuc, Option}
use Rattle.std.specs.Option.{option_map}
use Rattle.ring.specs.CommRing.{CommRing}
use Rattle.ring.specs.Whole.{whole}
use Rattle.triple.specs.declared.triple.Triple.{Triple}
use Rattle.spatial.specs.declared.link.Link.{Link}
use Rattle.rotation.specs.declared.quaternion.Quaternion.{Quaternion}
use Rattle.joint.specs.declared.kind.JointKind.{JointKind}
use Rattle.joint.specs.declared.kind.JointKind.TheVariants.{Revolute, Prismatic}
use Rattle.dynamics.specs.Entries.{entries, rows}
use Rattle.dynamics.specs.Held.{Held}
use Rattle.dynamics.specs.Given.{Given, rig}
use Rattle.dynamics.specs.Recursions.{Outcome, refused, found, torques, masses, accelerations}

-- what is shown of a rig, each number by its parts
abbrev pub torques_shown : {N : Type 0} → CommRing N → (N → List ℕ) → Option (Held N) → Option (List (List ℕ))
torques_shown k parts o = option_map (λ h. entries h.n (λ i. parts (torques k h i))) o

abbrev pub masses_shown : {N : Type 0} → CommRing N → (N → List ℕ) → Option (Held N) → Option (List (List ℕ))
masses_shown k parts o = option_map (λ h. rows h.n h.n (λ i j. parts (masses k h i j))) o

-- accelerations, or the refused joint
pub data Shown : Type 0 where
  none_at : ℕ → Shown
  all_of : List (List ℕ) → Shown

abbrev pub shown : {N : Type 0} → (N → List ℕ) → ℕ → Outcome N → Shown
shown parts n (refused j) = none_at j
shown parts n (found q) = all_of (entries n (λ i. parts (q i)))

abbrev pub accelerations_shown : {N : Type 0} → CommRing N → (N → List ℕ) → Option (Held N) → Option Shown
accelerations_shown k parts o = option_map (λ h. shown parts h.n (accelerations k h)) o

module _ {N : Type 0} (k : CommRing N) where
  abbrev n : ℕ → N
  n a = whole k (pos a)

  abbrev pub row : ℕ → ℕ → ℕ → Triple N
  row x y z = record { x = n x; y = n y; z = n z }

  -- a joint at r = 0 that is not turned, and one that is turned by (1, 1, 0, 0)
  abbrev straight : Quaternion N
  straight = record { a = n 1; b = n 0; c = n 0; d = n 0 }

  abbrev across : Quaternion N
  across = record { a = n 1; b = n 1; c = n 0; d = n 0 }

  abbrev joint_of : ℕ → JointKind → Quaternion N → Link N → N → N → N → N → Given N
  joint_of parent kind turn link position rate acceleration force =
      record {
        parent = parent;
        kind = kind;
        offset = row 0 0 0;
        turn = turn;
        link = link;
        position = position;
        rate = rate;
        acceleration = acceleration;
        force = force;
      }

  abbrev mass_only : ℕ → Link N
  mass_only m =
      record {
        mass = n m;
        first_moment = row 0 0 0;
        inertia = record { xx = n 0; xy = n 0; xz = n 0; yy = n 0; yz = n 0; zz = n 0 };
      }

  -- the swing: one revolute joint, m 2, h (2, 0, 0), J₂₂ = J₃₃ = 2, gravity (0, −10, 0), acceleration 3
  abbrev pub swing : N → N → Option (Held N)
  swing position rate =
      rig k (record { x = n 0; y = whole k (negsuc 9); z = n 0 })
      (joint_of 0 Revolute straight
      (record {
        mass = n 2;
        first_moment = row 2 0 0;
        inertia = record { xx = n 0; xy = n 0; xz = n 0; yy = n 2; yz = n 0; zz = n 2 };
      })
      position rate (n 3) (n 0)
      ∷ [])

  -- the slides: two prismatic joints, one on the other, with masses and forces
  abbrev pub slides : ℕ → ℕ → ℕ → ℕ → Option (Held N)
  slides m₁ m₂ f₁ f₂ =
      rig k (row 0 0 0)
      (joint_of 0 Prismatic straight (mass_only m₁) (n 0) (n 0) (n 0) (n f₁)
      ∷ joint_of 1 Prismatic straight (mass_only m₂) (n 0) (n 0) (n 0) (n f₂)
      ∷ [])

  -- crossed: a prismatic joint without mass, and on it, turned by (1, 1, 0, 0), a revolute one with h (1, 0, 0) only
  abbrev pub crossed : Option (Held N)
  crossed =
      rig k (row 0 0 0)
      (joint_of 0 Prismatic straight (mass_only 0) (n 0) (n 0) (n 0) (n 0)
      ∷ joint_of 1 Revolute across
      (record {
        mass = n 0;
        first_moment = row 1 0 0;
        inertia = record { xx = n 0; xy = n 0; xz = n 0; yy = n 0; yz = n 0; zz = n 0 };
      })
      (n 0) (n 0) (n 0) (n 0)
      ∷ [])

  -- a small tree with few zeros: a revolute joint, and on it a prismatic and a revolute one; gravity (1, 2, 3)
  abbrev pub small_tree : N → N → N → Option (Held N)
  small_tree f₁ f₂ f₃ =
      rig k (row 1 2 3)
      (record {
        parent = 0;
        kind = Revolute;
        offset = row 1 2 3;
        turn = record { a = n 1; b = n 2; c = n 3; d = n 4 };
        link =
            record {
              mass = n 2;
              first_moment = row 5 10 15;
              inertia = record { xx = n 1; xy = n 2; xz = n 3; yy = n 4; yz = n 5; zz = n 7 };
            };
        position = n 2;
        rate = n 5;
        acceleration = n 3;
        force = f₁;
      }
      ∷ record {
        parent = 1;
        kind = Prismatic;
        offset = row 3 1 2;
        turn = record { a = n 2; b = n 1; c = n 0; d = n 1 };
        link =
            record {
              mass = n 3;
              first_moment = row 1 4 2;
              inertia = record { xx = n 2; xy = n 1; xz = n 1; yy = n 3; yz = n 2; zz = n 5 };
            };
        position = n 7;
        rate = n 2;
        acceleration = n 4;
        force = f₂;
      }
      ∷ record {
        parent = 1;
        kind = Revolute;
        offset = row 2 5 1;
        turn = record { a = n 1; b = n 1; c = n 2; d = n 0 };
        link =
            record {
              mass = n 4;
              first_moment = row 2 1 3;
              inertia = record { xx = n 3; xy = n 1; xz = n 2; yy = n 6; yz = n 1; zz = n 4 };
            };
        position = n 3;
        rate = n 6;
        acceleration = n 1;
        force = f₃;
      }
      ∷ [])
