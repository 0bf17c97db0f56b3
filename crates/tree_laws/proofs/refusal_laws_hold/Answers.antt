use Rattle.tree_laws.proofs.refusal_laws_hold.Goals as goal
use Rattle.tree_laws.specs.Theorems.{refusal_is_right}

pub returns : goal.returns
returns g c = refusal_is_right g.row.R.Denot g.row.M.Denot g.row.F.Denot
