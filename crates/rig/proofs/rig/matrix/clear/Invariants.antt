use Rattle.rig.specs.Cells.{Zeros}
use Rattle.rig.proofs.rig.matrix.clear.Given as goal

abbrev pub invariant-loop-entry : goal.invariant-loop-entry
invariant-loop-entry g l = Zeros g.R.Ring.ring g.R.Ring.value l.entry-index l.entry-items
