use Rattle.std.proofs.Common.{◌≡◌, ◌-◌, ◌<◌, length, pos, Some, sym, refl, ap, ◌∙◌, subst, w64, to_z, of_z, rules}
use Rattle.std.proofs.lemmas.Int.{to_z-of_z}
use Rattle.std.specs.Option.{option_map}
use Rattle.spatial.specs.Placements.{placement}
use Rattle.joint.specs.Joints.{own}
use Rattle.pose.specs.Poses.{own_at}
use Rattle.rig.specs.Tables.{row_at}
use Rattle.rig.specs.Questions.{joint_number}
use Rattle.rig.specs.Calls.{Positioned, with_position}
use Rattle.rig.proofs.Asked.{within_some, slot_there, positions, settled}
use Rattle.rig.proofs.Given.{kept_own, positioned_true}
use Rattle.rig.proofs.rig.Rig.set_position.Goals as goal

pub offset_bounds-self-i-2 : goal.offset_bounds-self-i-2
offset_bounds-self-i-2 g c =
    let s = c.args.self.now in
    let h = within_some 1 s.n (to_z w64 (of_z w64 c.args.joint)) c.in_ok-i.ensures.ok_part c.within.ensures in
    let l : c.in_ok-i.i < length s.slots.now = slot_there s.slots.now s.n c.in_ok-i.i h.1 h.2 s.fit in
    search rules

pub offset_bounds-self-i-3 : goal.offset_bounds-self-i-3
offset_bounds-self-i-3 g c =
    let s = c.args.self.now in
    let h = within_some 1 s.n (to_z w64 (of_z w64 c.args.joint)) c.in_ok-i.ensures.ok_part c.within.ensures in
    let l : c.in_ok-i.i < length s.slots.now = slot_there s.slots.now s.n c.in_ok-i.i h.1 h.2 s.fit in
    search rules

pub returns : goal.returns
returns g c =
    let s = c.args.self.now in
    let k = g.R.Ring.ring in
    let v = g.R.Ring.value in
    let i = c.in_ok-i.i in
    let h = within_some 1 s.n (to_z w64 (of_z w64 c.args.joint)) c.in_ok-i.ensures.ok_part c.within.ensures in
    let q = v c.args.position in
    let l : i < length s.slots.now = slot_there s.slots.now s.n i h.1 h.2 s.fit in
    let e : c.args.joint ≡ pos i = sym (to_z-of_z w64 c.args.joint c.ranges.joint) ∙ h.0 in
    let x = c.in_ok-own.own in
    let placed : Some (placement v x) ≡ own k (row_at s.table (i - 1)).kind q =
    ap (option_map (placement v)) (sym c.in_ok-own.ensures.ok_part) ∙ c.placement.ensures in
    let p : Positioned k v s _ (joint_number c.args.joint) c.args.position =
    record {
      cosine = x.rotation.x.x;
      sine = x.rotation.x.y;
      placed_at =
          subst
          (λ j.
          own k (row_at s.table (joint_number j - 1)).kind q
          ≡ Some (own_at k (row_at s.table (joint_number j - 1)).kind (v x.rotation.x.x) (v x.rotation.x.y) q))
          (sym e)
          (kept_own k (row_at s.table (i - 1)).kind q (placement v x) placed);
      changed =
          record {
            slots = λ d. settled s.slots.now (with_position c.args.position x.rotation.x.x x.rotation.x.y) i c.args.joint _ d e l;
            table = refl;
            n = refl;
          };
    } in
    record {
      answer = positions k s.n s.table c.args.joint q i e h.1 h.2 (placement v x) placed;
      after = p;
      keeps = positioned_true k v _ _ _ c.args.position p;
      lent = refl;
    }
