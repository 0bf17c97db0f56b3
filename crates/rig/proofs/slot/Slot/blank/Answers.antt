use Rattle.std.proofs.Common.{◌≡◌, ap, ◌∙◌}
use Rattle.spatial.specs.Placements.{placement, slid}
use Rattle.rig.specs.Slots.{blank_slot}
use Rattle.rig.proofs.slot.Slot.blank.Goals as goal

pub returns : goal.returns
unfolding blank_slot
returns g c =
    let o = c.zero-o.ensures in
    let k = g.R.Ring.ring in
    let p : placement g.R.Ring.value c.slide.result ≡ slid k k.zero =
    c.slide.ensures ∙ ap (slid k) o in
    λ i.
    record {
      gravity = c.zero.ensures i;
      turn = record { a = c.one.ensures i; b = o i; c = o i; d = o i };
      fixed = p i;
      link =
          record {
            mass = o i;
            first_moment = c.zero-2.ensures i;
            inertia = record { xx = o i; xy = o i; xz = o i; yy = o i; yz = o i; zz = o i };
          };
      cosine = c.one-2.ensures i;
      sine = o i;
      position = o i;
      rate = o i;
      acceleration = o i;
      force = o i;
    }
