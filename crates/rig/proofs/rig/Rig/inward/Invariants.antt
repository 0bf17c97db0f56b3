use Rattle.rig.specs.Holds.{rig_holds}
use Rattle.rig.proofs.Held.{holds_n}
use Rattle.rig.proofs.Inward.{Carrying}
use Rattle.rig.proofs.rig.Rig.inward.Given as goal

abbrev pub invariant-loop-i : goal.invariant-loop-i
invariant-loop-i g l =
    let k = g.R.Ring.ring in
    let v = g.R.Ring.value in
    Carrying k v (rig_holds k v l.self) l.self.n (holds_n k v l.self) l.i l.work l.initial.res l.res
