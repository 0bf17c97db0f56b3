use Rattle.std.proofs.Common.{◌≡◌}
use Rattle.ring.specs.Whole.{copies}
use Rattle.ring.proofs.ring.Ring.natural.Given as goal

abbrev pub invariant-loop-rest : goal.invariant-loop-rest
invariant-loop-rest g l =
    let k = g.Self.Ring.ring in
    let v = g.Self.Ring.value in
    k.add (v l.sum) (copies k l.rest (v l.power)) ≡ copies k l.n k.one

abbrev pub decreases-loop-rest : goal.decreases-loop-rest
decreases-loop-rest g l = l.rest
