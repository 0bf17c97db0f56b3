use Rattle.std.proofs.Common.{◌≡◌, suc, ◌-◌, ◌<◌, ◌≤◌, length, sym, ap, ◌∙◌, subst, ap₂, arith, rules}
use Rattle.std.proofs.lemmas.List.{get_or_default}
use Rattle.motion.specs.Vectors.{force, force_add, pairing}
use Rattle.joint.specs.Joints.{axis, joint_inward}
use Rattle.dynamics.specs.Recursions.{S, torques}
use Rattle.rig.specs.Holds.{rig_holds}
use Rattle.rig.proofs.Asked.{there, above, below, lower, left_none}
use Rattle.rig.proofs.Held.{holds_n, moves_as}
use Rattle.rig.proofs.Inward.{HandedOn, carrying_all, carries_on, hands_none, hands_on, tab}
use Rattle.rig.proofs.Listed.{shown}
use Rattle.rig.proofs.rig.Rig.inward.Goals as goal
use Rattle.rig.proofs.rig.Rig.inward.Goals.{then-p-gt0, else-p-gt0}

pub loop-i-init : goal.loop-i-init
loop-i-init g c =
    let k = g.R.Ring.ring in
    let v = g.R.Ring.value in
    let s = c.args.self.now in
    carrying_all k v (rig_holds k v s) s.n (holds_n k v s) c.args.work.now c.args.res.now c.requires.moving

pub offset_bounds-work-i : goal.offset_bounds-work-i
offset_bounds-work-i g c =
    let l : c.loop-i.i < length c.args.work.now = there c.args.work.now c.args.self.now.n c.loop-i.i c.loop-i.auto.i c.requires.long in
    search rules

pub offset_bounds-res-i : goal.offset_bounds-res-i
offset_bounds-res-i g c =
    let l : c.loop-i.i - 1 < length c.args.res.now = below c.args.self.now.n c.loop-i.i (length c.args.res.now) c.loop-i-test.true c.loop-i.auto.i c.requires.room in
    search rules

pub offset_bounds-work-p : goal.offset_bounds-work-p
offset_bounds-work-p g c =
    let n = c.args.self.now.n in
    let p = c.joint-joint.result.row.parent in
    let l : p < length c.args.work.now = there c.args.work.now n p (lower n c.loop-i.i p c.joint-joint.ensures.low c.loop-i.auto.i) c.requires.long in
    search rules

pub offset_bounds-work-p-then-p-gt0 : goal.offset_bounds-work-p-then-p-gt0
offset_bounds-work-p-then-p-gt0 g c =
    let n = c.args.self.now.n in
    let p = c.joint-joint.result.row.parent in
    let l : p < length c.args.work.now = there c.args.work.now n p (lower n c.loop-i.i p c.joint-joint.ensures.low c.loop-i.auto.i) c.requires.long in
    search rules

pub loop-i-preserved : goal.loop-i-preserved
loop-i-preserved g c =
    let k = g.R.Ring.ring in
    let v = g.R.Ring.value in
    let s = c.args.self.now in
    let h = rig_holds k v s in
    let n_is = holds_n k v s in
    let i = c.loop-i.i in
    let m = i - 1 in
    let at : i ≡ suc (i - 1) = above i c.loop-i-test.true in
    let l : i - 1 < s.n = below s.n i s.n c.loop-i-test.true c.loop-i.auto.i (omega arith) in
    let room : i - 1 < length c.loop-i.res = below s.n i (length c.loop-i.res) c.loop-i-test.true c.loop-i.auto.i (subst (λ m. s.n ≤ m) (sym c.loop-i.auto.res) c.requires.room) in
    let is = c.joint-joint.ensures.is in
    let p = c.joint-joint.result.row.parent in
    let posed_is = c.pose-pose.ensures ∙ is.joint_is in
    let torque : v c.component.result ≡ pairing k (S k h i) (tab k v h s.n n_is c.index-work-i.result c.loop-i.work i) =
    c.component.ensures ∙ ap (λ κ. pairing k (axis k κ) (tab k v h s.n n_is c.index-work-i.result c.loop-i.work i)) (moves_as k v c.pose-pose.result _ posed_is) in
    let long : s.n < length c.loop-i.work = subst (λ m. s.n < m) (sym c.loop-i.auto.work) c.requires.long in
    let there_too : p < length c.loop-i.work = there c.loop-i.work s.n p (lower s.n i p c.joint-joint.ensures.low c.loop-i.auto.i) long in
    let handed : HandedOn k v h s.n n_is m c.loop-i.work c.if-p-gt0.work =
    elim c.if-p-gt0.branch [
      | then-p-gt0 w ↦
          subst (HandedOn k v h s.n n_is m c.loop-i.work) (sym w.work-is)
          (hands_on k v h s.n n_is m i at l c.loop-i.work p is.parent_is w.add-sum.result
          w.index-work-p-then-p-gt0.result c.index-work-i.result long
          (w.add-sum.ensures
          ∙ ap₂ (force_add k)
          (ap (λ w. force v w.moving.force) (get_or_default c.loop-i.work p _ _ there_too))
          (w.inward.ensures ∙ ap (λ j. joint_inward k j (tab k v h s.n n_is c.index-work-i.result c.loop-i.work i)) posed_is)))
      | else-p-gt0 w ↦
          subst (HandedOn k v h s.n n_is m c.loop-i.work) (sym w.work-is)
          (hands_none k v h s.n n_is m i at l c.loop-i.work p is.parent_is w.if-p-gt0.false)
    ] in
    carries_on k v h s.n n_is m i at l c.loop-i.work _ c.args.res.now c.loop-i.res
    c.component.result c.index-work-i.result i at room c.loop-i.invariant torque handed

pub returns : goal.returns
returns g c =
    let k = g.R.Ring.ring in
    let v = g.R.Ring.value in
    let s = c.args.self.now in
    let inv = c.loop-i.invariant in
    let none = c.loop-i-test.false in
    shown v s.n (torques k (rig_holds k v s)) c.args.res.now c.loop-i.res (subst (λ m. s.n ≤ m) (sym c.loop-i.auto.res) c.requires.room) c.loop-i.auto.res
    (λ j l d. inv.told j (left_none c.loop-i.i j none) l d) inv.rest
