-- What each call leaves. Numbers are given as values, which v takes to the numbers of the ring k.
use Rattle.std.specs.Prelude.{◌≡◌, ℕ, suc, ◌+◌, ◌-◌, ◌<◌, List, [], ◌∷◌, ℤ, pos, Some, slice_index_or, slice_set}
use Rattle.ring.specs.CommRing.{CommRing}
use Rattle.triple.specs.Ops.{ops}
use Rattle.triple.specs.Triples.{triple, zero3}
use Rattle.linear.specs.Matrices.{matrix}
use Rattle.triple.specs.declared.triple.Triple.{Triple}
use Rattle.spatial.specs.declared.link.Link.{Link}
use Rattle.rotation.specs.Rotations.{quaternion, rotation}
use Rattle.joint.specs.Joints.{own}
use Rattle.joint.specs.Letters.{kind_of}
use Rattle.pose.specs.Poses.{own_at}
use Rattle.joint.specs.declared.kind.JointKind.{JointKind}
use Rattle.rotation.specs.declared.quaternion.Quaternion.{Quaternion}
use Rattle.dynamics.specs.Given.{placed}
use Rattle.rig.specs.declared.slot.Slot.{Slot}
use Rattle.rig.specs.declared.rig.Rig.{Rig}
use Rattle.rig.specs.Tables.{row, row_at, with_row}
use Rattle.rig.specs.Slots.{slot, slot_joint, slot_given}

-- a slot with one thing set
module _ {S : Type 0} where
  abbrev pub with_gravity : Triple S → Slot S → Slot S
  with_gravity g s =
      record {
        gravity = g;
        turn = s.turn;
        fixed = s.fixed;
        link = s.link;
        cosine = s.cosine;
        sine = s.sine;
        position = s.position;
        rate = s.rate;
        acceleration = s.acceleration;
        force = s.force;
      }

  -- a position, and the cosine and the sine that were worked out from it
  abbrev pub with_position : S → S → S → Slot S → Slot S
  with_position q cosine sine s =
      record {
        gravity = s.gravity;
        turn = s.turn;
        fixed = s.fixed;
        link = s.link;
        cosine = cosine;
        sine = sine;
        position = q;
        rate = s.rate;
        acceleration = s.acceleration;
        force = s.force;
      }

  abbrev pub with_rate : S → Slot S → Slot S
  with_rate x s =
      record {
        gravity = s.gravity;
        turn = s.turn;
        fixed = s.fixed;
        link = s.link;
        cosine = s.cosine;
        sine = s.sine;
        position = s.position;
        rate = x;
        acceleration = s.acceleration;
        force = s.force;
      }

  abbrev pub with_acceleration : S → Slot S → Slot S
  with_acceleration x s =
      record {
        gravity = s.gravity;
        turn = s.turn;
        fixed = s.fixed;
        link = s.link;
        cosine = s.cosine;
        sine = s.sine;
        position = s.position;
        rate = s.rate;
        acceleration = x;
        force = s.force;
      }

  abbrev pub with_force : S → Slot S → Slot S
  with_force x s =
      record {
        gravity = s.gravity;
        turn = s.turn;
        fixed = s.fixed;
        link = s.link;
        cosine = s.cosine;
        sine = s.sine;
        position = s.position;
        rate = s.rate;
        acceleration = s.acceleration;
        force = x;
      }

  -- slot j changed by f, and no other, in the same table of as many joints
  pub record Changed (s t : Rig S) (j : ℕ) (f : Slot S → Slot S) : Type 0 where
    pub slots : (d : Slot S) → t.slots.now ≡ slice_set s.slots.now j (f (slice_index_or s.slots.now j d))
    pub table : t.table ≡ s.table
    pub n : t.n ≡ s.n

  -- slot j changed to one that P says of the old one, and no other
  pub record ChangedBy (s t : Rig S) (j : ℕ) (P : Slot S → Slot S → Type 0) : Type 0 where
    pub new_slot : Slot S
    pub says : (d : Slot S) → P (slice_index_or s.slots.now j d) new_slot
    pub slots : t.slots.now ≡ slice_set s.slots.now j new_slot
    pub table : t.table ≡ s.table
    pub n : t.n ≡ s.n

module _ {S N : Type 0} (k : CommRing N) (v : S → N) where
  -- making: gravity is zero in the first slot, if there is one, and all else is as it was
  abbrev pub Begun : List (Slot S) → List (Slot S) → Type 0
  Begun [] ys = ys ≡ []
  Begun (x ∷ xs) ys = (g : Triple S) × (triple v g ≡ zero3 (ops k)) × (ys ≡ with_gravity g x ∷ xs)

  -- the slot of a joint that was just added: its numbers as given, its rotation, and everything else at zero
  pub record Fresh (κ : JointKind) (offset : Triple S) (turn : Quaternion S) (link : Link S) (s : Slot S) : Type 0 where
    pub given_offset : s.fixed.offset ≡ offset
    pub given_turn : s.turn ≡ turn
    pub given_link : s.link ≡ link
    pub turned : rotation k (quaternion v turn) ≡ Some (matrix v s.fixed.rotation)
    pub placed_at : own k κ (v s.position) ≡ Some (own_at k κ (v s.cosine) (v s.sine) (v s.position))
    pub position : v s.position ≡ k.zero
    pub rate : v s.rate ≡ k.zero
    pub acceleration : v s.acceleration ≡ k.zero
    pub force : v s.force ≡ k.zero

  -- adding: one joint more, with its row and its slot, and all else as it was
  pub record Added (s t : Rig S) (parent : ℤ) (letter : ℕ) (offset : Triple S) (turn : Quaternion S) (link : Link S) : Type 0 where
    pub n : t.n ≡ s.n + 1
    pub kind : JointKind
    pub kind_is : kind_of letter ≡ Some kind
    pub parent_number : ℕ
    pub parent_is : parent ≡ pos parent_number
    pub table : t.table ≡ with_row s.table s.n (row parent_number kind)
    pub new_slot : Slot S
    pub fresh : Fresh kind offset turn link new_slot
    pub slots : t.slots.now ≡ slice_set s.slots.now (s.n + 1) new_slot

  -- a position set: slot j gets it, with a cosine and a sine by which the joint's own placement is the one at that position
  pub record Positioned (s t : Rig S) (j : ℕ) (q : S) : Type 0 where
    pub cosine : S
    pub sine : S
    pub placed_at :
        own k (row_at s.table (j - 1)).kind (v q) ≡ Some (own_at k (row_at s.table (j - 1)).kind (v cosine) (v sine) (v q))
    pub changed : Changed s t j (with_position q cosine sine)

  -- what was worked out is what the given numbers say, for each joint: its N and its 1 + t t are units, and its
  -- rotation and its own placement are those of the formulas
  abbrev pub TrueToGiven : Rig S → Type 0
  TrueToGiven s =
      (i : ℕ) → i < s.n → (d : Slot S)
      → placed k (slot_given (row_at s.table i) (slot v (slice_index_or s.slots.now (suc i) d)))
      ≡ Some (slot_joint k (row_at s.table i) (slot v (slice_index_or s.slots.now (suc i) d)))
