use Rattle.std.proofs.Common.{◌+◌, ◌-◌, ◌<◌, ◌≤◌, length, sym, ap, ◌∙◌, subst, arith, rules}
use Rattle.inertia.specs.Inertias.{of_link}
use Rattle.rig.specs.Holds.{rig_holds}
use Rattle.rig.proofs.Asked.{there}
use Rattle.rig.proofs.Outward.{own_more}
use Rattle.rig.proofs.rig.Rig.own_inertias.Goals as goal

pub offset_bounds-work-i : goal.offset_bounds-work-i
offset_bounds-work-i g c =
    let l : c.loop-i.i < length c.args.work.now = there c.args.work.now c.args.self.now.n c.loop-i.i c.loop-i-test.true c.requires in
    search rules

pub loop-i-preserved : goal.loop-i-preserved
loop-i-preserved g c =
    let k = g.R.Ring.ring in
    let v = g.R.Ring.value in
    let s = c.args.self.now in
    let l : c.loop-i.i < length c.args.work.now = there c.args.work.now s.n c.loop-i.i c.loop-i-test.true c.requires in
    let m : c.loop-i.i + 1 - 1 ≤ c.loop-i.i = omega arith in
    own_more k v (rig_holds k v s) c.loop-i.work c.loop-i.i _ (subst (λ n. c.loop-i.i < n) (sym c.loop-i.auto.work) l)
    (c.from.ensures ∙ ap (of_link k) c.joint.ensures.is.link_is) c.loop-i.invariant (c.loop-i.i + 1 - 1) m

pub returns : goal.returns
returns g c =
    let none = c.loop-i-test.false in
    λ i l d. c.loop-i.invariant i (omega arith) d

pub returns-2 : goal.returns-2
returns-2 g c =
    let k = g.R.Ring.ring in
    let v = g.R.Ring.value in
    let s = c.args.self.now in
    let l : c.loop-i.i < length c.args.work.now = there c.args.work.now s.n c.loop-i.i c.loop-i-test.true c.requires in
    own_more k v (rig_holds k v s) c.loop-i.work c.loop-i.i _ (subst (λ n. c.loop-i.i < n) (sym c.loop-i.auto.work) l)
    (c.from.ensures ∙ ap (of_link k) c.joint.ensures.is.link_is) c.loop-i.invariant s.n c.if-i-i-end.false
