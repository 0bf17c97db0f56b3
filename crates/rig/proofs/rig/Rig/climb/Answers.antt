use Rattle.std.proofs.Common.{◌≡◌, suc, ◌-◌, ◌*◌, ◌<◌, ◌≤◌, length, sym, ap, ◌∙◌, subst, arith}
use Rattle.motion.specs.Vectors.{force, pairing}
use Rattle.joint.specs.Joints.{axis, joint_inward}
use Rattle.dynamics.specs.Recursions.{S}
use Rattle.rig.specs.Holds.{rig_holds}
use Rattle.rig.specs.Cells.{Climbs}
use Rattle.rig.proofs.Held.{moves_as}
use Rattle.rig.proofs.Climb.{Climbing, climbing_starts, climb_ends, climb_on}
use Rattle.rig.proofs.rig.Rig.climb.Goals as goal

pub steps-init : goal.steps-init
steps-init g c =
    let k = g.R.Ring.ring in
    let v = g.R.Ring.value in
    let s = c.args.self.now in
    (c.requires.joint.0, climbing_starts k v (rig_holds k v s) s.n (c.args.i - 1) c.args.force c.args.res.now c.requires.clear)

pub joint-joint-requires : goal.joint-joint-requires
joint-joint-requires g c =
    let low = c.steps.invariant.1.low in
    (c.steps.invariant.0, omega (arith, low, c.requires.joint.0, c.requires.joint.1, c.steps.invariant.0))

pub put_both-requires-clause-column : goal.put_both-requires-clause-column
put_both-requires-clause-column g c =
    let low = c.steps.invariant.1.low in
    omega (arith, low, c.requires.joint.0, c.requires.joint.1, c.steps.invariant.0)

pub returns-then-p-eq0 : goal.returns-then-p-eq0
returns-then-p-eq0 g c =
    let k = g.R.Ring.ring in
    let v = g.R.Ring.value in
    let s = c.args.self.now in
    let h = rig_holds k v s in
    let a = c.args.i - 1 in
    let j = c.steps.j - 1 in
    let pos = c.steps.invariant.0 in
    let at : c.steps.j ≡ suc (c.steps.j - 1) = omega (arith, pos) in
    let la : c.args.i - 1 < s.n = omega (arith, c.requires.joint.0, c.requires.joint.1) in
    let same = c.steps.auto.res in
    let room : s.n * s.n ≤ length c.steps.res = subst (λ m. s.n * s.n ≤ m) (sym same) c.requires.room in
    let is = c.joint-joint.ensures.is in
    let posed_is = c.pose-pose.ensures ∙ is.joint_is in
    let entry : v c.component.result ≡ pairing k (S k h c.steps.j) (force v c.steps.f) =
    c.component.ensures ∙ ap (λ κ. pairing k (axis k κ) (force v c.steps.f)) (moves_as k v c.pose-pose.result _ posed_is) in
    subst (λ xs. Climbs k v h s.n a c.args.force c.args.res.now xs) (sym c.put_both.ensures)
    (climb_ends k v h s.n a c.args.force c.args.res.now j c.steps.j at c.steps.f c.steps.res c.steps.invariant.1 la room
    c.component.result entry c.joint-joint.result.row.parent is.parent_is c.if-p-eq0.true)

pub steps-preserved : goal.steps-preserved
steps-preserved g c =
    let k = g.R.Ring.ring in
    let v = g.R.Ring.value in
    let s = c.args.self.now in
    let h = rig_holds k v s in
    let a = c.args.i - 1 in
    let j = c.steps.j - 1 in
    let pos = c.steps.invariant.0 in
    let at : c.steps.j ≡ suc (c.steps.j - 1) = omega (arith, pos) in
    let la : c.args.i - 1 < s.n = omega (arith, c.requires.joint.0, c.requires.joint.1) in
    let same = c.steps.auto.res in
    let room : s.n * s.n ≤ length c.steps.res = subst (λ m. s.n * s.n ≤ m) (sym same) c.requires.room in
    let is = c.joint-joint.ensures.is in
    let posed_is = c.pose-pose.ensures ∙ is.joint_is in
    let entry : v c.component.result ≡ pairing k (S k h c.steps.j) (force v c.steps.f) =
    c.component.ensures ∙ ap (λ κ. pairing k (axis k κ) (force v c.steps.f)) (moves_as k v c.pose-pose.result _ posed_is) in
    let ne = c.if-p-eq0.false in (
      omega (arith, ne),
      subst (λ xs. Climbing k v h s.n a c.args.force c.args.res.now (c.joint-joint.result.row.parent - 1) c.inward-f.result xs) (sym c.put_both.ensures)
          (climb_on k v h s.n a c.args.force c.args.res.now j c.steps.j at c.steps.f c.steps.res c.steps.invariant.1 la room
          c.component.result entry c.joint-joint.result.row.parent is.parent_is ne c.inward-f.result
          (c.inward-f.ensures ∙ ap (λ x. joint_inward k x (force v c.steps.f)) posed_is)),
    )
