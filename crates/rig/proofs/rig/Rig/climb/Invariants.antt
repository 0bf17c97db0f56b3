use Rattle.std.proofs.Common.{◌-◌, ◌<◌}
use Rattle.rig.specs.Holds.{rig_holds}
use Rattle.rig.proofs.Climb.{Climbing}
use Rattle.rig.proofs.rig.Rig.climb.Given as goal

abbrev pub invariant-steps : goal.invariant-steps
invariant-steps g l =
    let k = g.R.Ring.ring in
    let v = g.R.Ring.value in
    (0 < l.j) × Climbing k v (rig_holds k v l.self) l.self.n (l.i - 1) l.initial.f l.initial.res (l.j - 1) l.f l.res

abbrev pub decreases-steps : goal.decreases-steps
decreases-steps g l = l.j
