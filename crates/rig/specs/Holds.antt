-- What a rig holds: what the recursions take.
use Rattle.std.specs.Prelude.{◌≡◌, ℕ, ◌-◌, cond, List, map, get_or, pos, slice_index_or}
use Rattle.ring.specs.CommRing.{CommRing}
use Rattle.spatial.specs.Links.{link}
use Rattle.dynamics.specs.Held.{Held, par}
use Rattle.rig.specs.declared.slot.Slot.{Slot}
use Rattle.rig.specs.declared.table.Row.{Row}
use Rattle.rig.specs.declared.table.Table.{Table}
use Rattle.rig.specs.declared.rig.Rig.{Rig}
use Rattle.rig.specs.Tables.{row_at, blank_row}
use Rattle.rig.specs.Slots.{slot, slot_joint, blank_slot}
use Rattle.rig.specs.Questions.{is_joint}

-- of n joints with this table and these slots
module _ {N : Type 0} (k : CommRing N) (n : ℕ) (table : Table) (slots : List (Slot N)) where
  -- the row and the slot of joint i, blank where there is no joint i
  abbrev pub held_row : ℕ → Row
  held_row i = cond (is_joint n (pos i)) (row_at table (i - 1)) blank_row

  abbrev pub held_slot : ℕ → Slot N
  held_slot i = cond (is_joint n (pos i)) (slice_index_or slots i (blank_slot k)) (blank_slot k)

  -- gravity lies in slot 0; the placements are those that the slots keep
  abbrev pub holds : Held N
  holds =
      record {
        n = n;
        gravity = (get_or slots 0 (blank_slot k)).gravity;
        parent = λ i. (held_row i).parent;
        joints = λ i. slot_joint k (held_row i) (held_slot i);
        links = λ i. (held_slot i).link;
        rate = λ i. (held_slot i).rate;
        acceleration = λ i. (held_slot i).acceleration;
        force = λ i. (held_slot i).force;
      }

-- what a rig holds, by the numbers that its values stand for
unfoldable pub rig_holds : {S N : Type 0} → CommRing N → (S → N) → Rig S → Held N
rig_holds k v r = holds k r.n r.table (map (slot v) r.slots.now)

-- joint i of h is the one with this row and this slot
pub record HeldAt {S N : Type 0} (k : CommRing N) (v : S → N) (h : Held N) (i : ℕ) (r : Row) (s : Slot S) : Type 0 where
  pub joint_is : slot_joint k r (slot v s) ≡ h.joints i
  pub parent_is : r.parent ≡ par h i
  pub link_is : link v s.link ≡ h.links i
  pub rate_is : v s.rate ≡ h.rate i
  pub acceleration_is : v s.acceleration ≡ h.acceleration i
