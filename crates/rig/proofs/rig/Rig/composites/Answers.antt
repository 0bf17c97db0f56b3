use Rattle.std.proofs.Common.{◌≡◌, suc, ◌-◌, ◌*◌, ◌<◌, ◌≤◌, length, get_or, sym, ap, ◌∙◌, subst, ap₂, arith, rules}
use Rattle.std.proofs.lemmas.List.{get_or_default}
use Rattle.motion.specs.Vectors.{force}
use Rattle.inertia.specs.Inertias.{inertia, applied, inertia_add}
use Rattle.joint.specs.Joints.{axis, joint_carried}
use Rattle.dynamics.specs.Recursions.{S}
use Rattle.rig.specs.Holds.{rig_holds}
use Rattle.rig.proofs.Asked.{there, above, below, just_below, lower, left_none}
use Rattle.rig.proofs.Held.{holds_n, moves_as}
use Rattle.rig.proofs.Composite.{HandedOn, composing_all, composes_on, composed_all, hands_none, hands_on, ops_of}
use Rattle.rig.proofs.rig.Rig.composites.Goals as goal
use Rattle.rig.proofs.rig.Rig.composites.Goals.{then-p-gt0, else-p-gt0}

pub loop-i-init : goal.loop-i-init
loop-i-init g c =
    let k = g.R.Ring.ring in
    let v = g.R.Ring.value in
    let s = c.args.self.now in
    composing_all k v (rig_holds k v s) s.n (holds_n k v s) c.args.work.now c.args.res.now c.requires.own c.requires.clear

pub offset_bounds-work-i : goal.offset_bounds-work-i
offset_bounds-work-i g c =
    let l : c.loop-i.i < length c.args.work.now = there c.args.work.now c.args.self.now.n c.loop-i.i c.loop-i.auto.i c.requires.long in
    search rules

pub climb-requires-clause-clear : goal.climb-requires-clause-clear
climb-requires-clause-clear g c =
    λ b l. c.loop-i.invariant.clear (c.loop-i.i - 1) b (just_below c.loop-i.i c.loop-i-test.true) l

pub offset_bounds-work-p : goal.offset_bounds-work-p
offset_bounds-work-p g c =
    let n = c.args.self.now.n in
    let p = c.joint-joint.result.row.parent in
    let l : p < length c.args.work.now = there c.args.work.now n p (lower n c.loop-i.i p c.joint-joint.ensures.low c.loop-i.auto.i) c.requires.long in
    search rules

pub offset_bounds-work-p-then-p-gt0 : goal.offset_bounds-work-p-then-p-gt0
offset_bounds-work-p-then-p-gt0 g c =
    let n = c.args.self.now.n in
    let p = c.joint-joint.result.row.parent in
    let l : p < length c.args.work.now = there c.args.work.now n p (lower n c.loop-i.i p c.joint-joint.ensures.low c.loop-i.auto.i) c.requires.long in
    search rules

pub loop-i-preserved : goal.loop-i-preserved
loop-i-preserved g c =
    let k = g.R.Ring.ring in
    let v = g.R.Ring.value in
    let s = c.args.self.now in
    let h = rig_holds k v s in
    let n_is = holds_n k v s in
    let i = c.loop-i.i in
    let m = i - 1 in
    let at : i ≡ suc (i - 1) = above i c.loop-i-test.true in
    let l : i - 1 < s.n = below s.n i s.n c.loop-i-test.true c.loop-i.auto.i (omega arith) in
    let is = c.joint-joint.ensures.is in
    let p = c.joint-joint.result.row.parent in
    let posed_is = c.pose-pose.ensures ∙ is.joint_is in
    let own = inertia v (get_or c.loop-i.work i c.index-work-i.result).inertia in
    let at_axis : force v c.column.result ≡ ops_of k v h s.n n_is c.index-work-i.result c.loop-i.work i (S k h i) =
    c.column.ensures ∙ ap (λ κ. applied k own (axis k κ)) (moves_as k v c.pose-pose.result _ posed_is) in
    let long : s.n < length c.loop-i.work = subst (λ m. s.n < m) (sym c.loop-i.auto.work) c.requires.long in
    let there_too : p < length c.loop-i.work = there c.loop-i.work s.n p (lower s.n i p c.joint-joint.ensures.low c.loop-i.auto.i) long in
    let handed : HandedOn k v h s.n n_is m c.loop-i.work c.if-p-gt0.work =
    elim c.if-p-gt0.branch [
      | then-p-gt0 w ↦
          subst (HandedOn k v h s.n n_is m c.loop-i.work) (sym w.work-is)
          (hands_on k v h s.n n_is m i at l c.loop-i.work p is.parent_is w.add-sum.result
          w.index-work-p-then-p-gt0.result c.index-work-i.result long
          (w.add-sum.ensures
          ∙ ap₂ (inertia_add k)
          (ap (λ w. inertia v w.inertia) (get_or_default c.loop-i.work p _ _ there_too))
          (w.carried.ensures ∙ ap (λ j. joint_carried k j own) posed_is)))
      | else-p-gt0 w ↦
          subst (HandedOn k v h s.n n_is m c.loop-i.work) (sym w.work-is)
          (hands_none k v h s.n n_is m i at l c.loop-i.work p is.parent_is w.if-p-gt0.false)
    ] in
    composes_on k v h s.n n_is m i at l c.loop-i.work _ c.args.res.now c.loop-i.res
    c.climb.new.res c.column.result c.index-work-i.result i at c.loop-i.invariant at_axis c.climb.ensures handed

pub returns : goal.returns
returns g c =
    let k = g.R.Ring.ring in
    let v = g.R.Ring.value in
    let s = c.args.self.now in
    let same = c.loop-i.auto.res in
    composed_all k v (rig_holds k v s) s.n (holds_n k v s) c.loop-i.work c.args.res.now c.loop-i.res c.loop-i.i
    (left_none c.loop-i.i 0 c.loop-i-test.false) c.loop-i.invariant (subst (λ m. s.n * s.n ≤ m) (sym same) c.requires.room) same
