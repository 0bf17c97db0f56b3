use Rattle.tree_laws.proofs.accelerations_laws_hold.Goals as goal
use Rattle.tree_laws.specs.Theorems.{aba_is_right}

pub returns : goal.returns
returns g c = aba_is_right g.row.R.Denot g.row.M.Denot g.row.F.Denot
