-- The questions that a call puts, in their order. The first no decides: its refusal is the answer.
use Rattle.std.specs.Prelude.{ℕ, ◌+◌, ◌-◌, Bool, true, false, cond, ◌&&◌, List, [], ◌∷◌, ℤ, pos, negsuc, is_some, Some, None, Ok, Err, Option, Result, nat_le}
use Rattle.ring.specs.CommRing.{CommRing}
use Rattle.spatial.specs.Placements.{turn_norm}
use Rattle.rotation.specs.Rotations.{norm}
use Rattle.rotation.specs.declared.quaternion.Quaternion.{Quaternion}
use Rattle.joint.specs.Letters.{kind_of}
use Rattle.joint.specs.declared.kind.JointKind.{JointKind}
use Rattle.joint.specs.declared.kind.JointKind.TheVariants.{Revolute, Prismatic}
use Rattle.refusal.specs.declared.Refusal.{Refusal}
use Rattle.refusal.specs.declared.Refusal.TheVariants.{NoSlot, NoParent, NoKind, NoRotation, NoJoint, NoPosition, ShortResult, ShortWork}
use Rattle.rig.specs.declared.table.Table.{Table}
use Rattle.rig.specs.Tables.{row_at}

pub record Question : Type 0 where
  pub yes : Bool
  pub refusal : Refusal

abbrev pub ask : Bool → Refusal → Question
ask b e = record { yes = b; refusal = e }

abbrev pub first_no : List Question → Option Refusal
first_no [] = None
first_no (q ∷ qs) = cond q.yes (first_no qs) (Some q.refusal)

-- a call that is taken answers x
abbrev pub answered : {X : Type 0} → X → Option Refusal → Result X Refusal
answered x None = Ok x
answered x (Some e) = Err e

-- 1, in a rig of n joints: is there a slot for joint n + 1, and is it at most the 24th?
abbrev pub has_room : ℕ → ℕ → Bool
has_room n slots = nat_le (n + 2) slots && nat_le (n + 1) 24

-- 2: is it 0 or a joint?
abbrev pub is_parent : ℕ → ℤ → Bool
is_parent n (pos p) = nat_le p n
is_parent n (negsuc p) = false

-- is it from `least` to n?
abbrev pub is_between : ℕ → ℕ → ℤ → Bool
is_between least n (pos j) = nat_le least j && nat_le j n
is_between least n (negsuc j) = false

-- 5: is it from 1 to n?
abbrev pub is_joint : ℕ → ℤ → Bool
is_joint n (pos j) = nat_le 1 j && nat_le j n
is_joint n (negsuc j) = false

-- the number of a joint from 1 to n
abbrev pub joint_number : ℤ → ℕ
joint_number (pos j) = j
joint_number (negsuc j) = 0

module _ {N : Type 0} (k : CommRing N) where
  abbrev pub is_unit : N → Bool
  is_unit x = is_some (k.inverse x)

  -- 6, of a revolute joint: is 1 + t t a unit?
  abbrev pub is_position : JointKind → N → Bool
  is_position Revolute t = is_unit (turn_norm k t)
  is_position Prismatic q = true

  abbrev pub adding : ℕ → ℕ → ℤ → ℕ → Quaternion N → List Question
  adding n slots parent letter turn =
      ask (has_room n slots) NoSlot
      ∷ ask (is_parent n parent) NoParent
      ∷ ask (is_some (kind_of letter)) NoKind
      ∷ ask (is_unit (norm k turn)) NoRotation
      ∷ []

  abbrev pub positioning : ℕ → Table → ℤ → N → List Question
  positioning n table joint t =
      ask (is_joint n joint) NoJoint
      ∷ ask (is_position (row_at table (joint_number joint - 1)).kind t) (NoPosition (joint_number joint))
      ∷ []

-- rates, accelerations and forces
abbrev pub setting : ℕ → ℤ → List Question
setting n joint = ask (is_joint n joint) NoJoint ∷ []

-- 1, for the base
abbrev pub weighting : ℕ → List Question
weighting slots = ask (nat_le 1 slots) NoSlot ∷ []

-- 7 and 8, of a show that fills `wanted` entries
abbrev pub showing : ℕ → ℕ → ℕ → ℕ → List Question
showing n wanted results works = ask (nat_le wanted results) ShortResult ∷ ask (nat_le (n + 1) works) ShortWork ∷ []
