use Rattle.std.proofs.Common.{◌-◌}
use Rattle.rig.specs.Holds.{rig_holds}
use Rattle.rig.specs.Cells.{OwnInertias}
use Rattle.rig.proofs.rig.Rig.own_inertias.Given as goal

abbrev pub invariant-loop-i : goal.invariant-loop-i
invariant-loop-i g l =
    let k = g.R.Ring.ring in
    let v = g.R.Ring.value in
    OwnInertias k v (rig_holds k v l.self) (l.i - 1) l.work
