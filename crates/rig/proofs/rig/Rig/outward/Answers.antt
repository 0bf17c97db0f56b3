use Rattle.std.proofs.Common.{◌≡◌, ◌+◌, ◌-◌, ◌<◌, ◌≤◌, length, sym, ◌∙◌, subst, length-set, arith, rules}
use Rattle.rig.specs.Holds.{rig_holds}
use Rattle.rig.proofs.Asked.{there, last, counted}
use Rattle.rig.proofs.Held.{holds_n}
use Rattle.rig.proofs.Outward.{base_moves, moves_more}
use Rattle.rig.proofs.rig.Rig.outward.Goals as goal

pub loop-i-init : goal.loop-i-init
loop-i-init g c =
    let k = g.R.Ring.ring in
    let v = g.R.Ring.value in
    base_moves k v (rig_holds k v c.args.self.now) c.args.work.now c.base.result c.index-work-0.result c.base.ensures
    (there c.args.work.now c.args.self.now.n 0 (omega (arith, c.requires.0)) c.requires.1)

pub offset_bounds-work-joint : goal.offset_bounds-work-joint
offset_bounds-work-joint g c =
    let low = c.joint-joint.ensures.low in
    let l : c.joint-joint.result.row.parent < length c.args.work.now =
    there c.args.work.now c.args.self.now.n c.joint-joint.result.row.parent (omega (arith, low, c.loop-i-test.true)) c.requires.1 in
    search rules

pub offset_bounds-work-i : goal.offset_bounds-work-i
offset_bounds-work-i g c =
    let l : c.loop-i.i < length c.args.work.now = there c.args.work.now c.args.self.now.n c.loop-i.i c.loop-i-test.true c.requires.1 in
    search rules

pub loop-i-preserved : goal.loop-i-preserved
loop-i-preserved g c =
    let k = g.R.Ring.ring in
    let v = g.R.Ring.value in
    let s = c.args.self.now in
    let h = rig_holds k v s in
    let is = c.joint-joint.ensures.is in
    let same : length c.loop-i.work ≡ length c.args.work.now = c.loop-i.auto.work ∙ length-set c.args.work.now 0 _ in
    let l : c.loop-i.i < length c.args.work.now = there c.args.work.now s.n c.loop-i.i c.loop-i-test.true c.requires.1 in
    moves_more k v h c.loop-i.work c.loop-i.i c.moved.result _ _ c.loop-i.auto.i
    (subst (λ n. c.loop-i.i ≤ n) (sym (holds_n k v s)) c.loop-i-test.true)
    (subst (λ n. c.loop-i.i < n) (sym same) l) c.loop-i.invariant
    c.joint-joint.result.row.parent is.parent_is (c.moved.ensures h c.loop-i.i is) (c.loop-i.i + 1 - 1) (counted c.loop-i.i)

pub returns-2 : goal.returns-2
returns-2 g c =
    let k = g.R.Ring.ring in
    let v = g.R.Ring.value in
    let s = c.args.self.now in
    let h = rig_holds k v s in
    let is = c.joint-joint.ensures.is in
    let same : length c.loop-i.work ≡ length c.args.work.now = c.loop-i.auto.work ∙ length-set c.args.work.now 0 _ in
    let l : c.loop-i.i < length c.args.work.now = there c.args.work.now s.n c.loop-i.i c.loop-i-test.true c.requires.1 in
    moves_more k v h c.loop-i.work c.loop-i.i c.moved.result _ _ c.loop-i.auto.i
    (subst (λ n. c.loop-i.i ≤ n) (sym (holds_n k v s)) c.loop-i-test.true)
    (subst (λ n. c.loop-i.i < n) (sym same) l) c.loop-i.invariant
    c.joint-joint.result.row.parent is.parent_is (c.moved.ensures h c.loop-i.i is) s.n (last s.n c.loop-i.i c.if-i-i-end.false c.loop-i-test.true)
