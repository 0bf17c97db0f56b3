-- What a slot holds.
use Rattle.ring.specs.CommRing.{CommRing}
use Rattle.triple.specs.Triples.{triple, zero3}
use Rattle.triple.specs.Ops.{ops}
use Rattle.spatial.specs.Placements.{placement, slid}
use Rattle.spatial.specs.Links.{link}
use Rattle.rotation.specs.Rotations.{quaternion}
use Rattle.dynamics.specs.Given.{Given, blank}
use Rattle.pose.specs.Poses.{own_at}
use Rattle.joint.specs.declared.joint.Joint.{Joint}
use Rattle.rig.specs.declared.slot.Slot.{Slot}
use Rattle.rig.specs.declared.table.Row.{Row}

-- each number by f
abbrev pub slot : {S N : Type 0} → (S → N) → Slot S → Slot N
slot f s =
    record {
      gravity = triple f s.gravity;
      turn = quaternion f s.turn;
      fixed = placement f s.fixed;
      link = link f s.link;
      cosine = f s.cosine;
      sine = f s.sine;
      position = f s.position;
      rate = f s.rate;
      acceleration = f s.acceleration;
      force = f s.force;
    }

-- the joint whose row and slot these are: its own placement by the cosine and the sine that are kept, or by its length
abbrev pub slot_joint : {N : Type 0} → CommRing N → Row → Slot N → Joint N
slot_joint k r s = record { kind = r.kind; fixed = s.fixed; own = own_at k r.kind s.cosine s.sine s.position }

-- the same by the numbers that were given
abbrev pub slot_given : {N : Type 0} → Row → Slot N → Given N
slot_given r s =
    record {
      parent = r.parent;
      kind = r.kind;
      offset = s.fixed.offset;
      turn = s.turn;
      link = s.link;
      position = s.position;
      rate = s.rate;
      acceleration = s.acceleration;
      force = s.force;
    }

-- what a blank slot holds
unfoldable pub blank_slot : {N : Type 0} → CommRing N → Slot N
blank_slot k =
    record {
      gravity = zero3 (ops k);
      turn = (blank k).turn;
      fixed = slid k k.zero;
      link = (blank k).link;
      cosine = k.one;
      sine = k.zero;
      position = k.zero;
      rate = k.zero;
      acceleration = k.zero;
      force = k.zero;
    }
