use Rattle.rig.specs.Holds.{rig_holds}
use Rattle.rig.proofs.Held.{holds_n}
use Rattle.rig.proofs.Composite.{Composing}
use Rattle.rig.proofs.rig.Rig.composites.Given as goal

abbrev pub invariant-loop-i : goal.invariant-loop-i
invariant-loop-i g l =
    let k = g.R.Ring.ring in
    let v = g.R.Ring.value in
    Composing k v (rig_holds k v l.self) l.self.n (holds_n k v l.self) l.i l.work l.initial.res l.res
