use Rattle.std.proofs.Common.{◌≡◌, ◌-◌, ◌<◌, length, get_or, pos, sym, refl, ◌∙◌, subst, w64, to_z, of_z, rules}
use Rattle.std.proofs.lemmas.Int.{to_z-of_z}
use Rattle.std.proofs.lemmas.List.{get_or_default}
use Rattle.std.specs.Fn.{FnOnceReturnsAtMut}
use Rattle.rig.specs.Questions.{joint_number}
use Rattle.rig.proofs.Asked.{within_some, slot_there, before, set_at}
use Rattle.rig.proofs.rig.Rig.change.Goals as goal

pub offset_bounds-slots-i : goal.offset_bounds-slots-i
offset_bounds-slots-i g c =
    let s = c.args.self.now in
    let h = within_some 1 s.n (to_z w64 (of_z w64 c.args.joint)) c.in_ok-i.ensures.ok_part c.within.ensures in
    let l : c.in_ok-i.i < length s.slots.now = slot_there s.slots.now s.n c.in_ok-i.i h.1 h.2 s.fit in
    -- the slot before it is there too, so that a write there is refused for what it changes
    let b : c.in_ok-i.i - 1 < length s.slots.now = before s.slots.now c.in_ok-i.i l in
    search rules

pub returns-clause-after : goal.returns-clause-after
returns-clause-after g c =
    let s = c.args.self.now in
    let h = within_some 1 s.n (to_z w64 (of_z w64 c.args.joint)) c.in_ok-i.ensures.ok_part c.within.ensures in
    let i = c.in_ok-i.i in
    let l : i < length s.slots.now = slot_there s.slots.now s.n i h.1 h.2 s.fit in
    let e : c.args.joint ≡ pos i = sym (to_z-of_z w64 c.args.joint c.ranges.joint) ∙ h.0 in
    let says : FnOnceReturnsAtMut g.F.FnOnce c.args.change (get_or s.slots.now i c.index-slots-i.result) (tt {0}) c.change.new.arg2 =
    record { shown = _; shows = refl; left = _; met = c.change.ensures; leaves = refl } in
    record {
      new_slot = c.change.new.arg2;
      says = λ d. subst (λ j. FnOnceReturnsAtMut g.F.FnOnce c.args.change (get_or s.slots.now (joint_number j) d) (tt {0}) c.change.new.arg2) (sym e)
          (subst (λ x. FnOnceReturnsAtMut g.F.FnOnce c.args.change x (tt {0}) c.change.new.arg2) (get_or_default s.slots.now i _ d l) says);
      slots = set_at s.slots.now c.change.new.arg2 i c.args.joint e;
      table = refl;
      n = refl;
    }
