use Rattle.tree_laws.proofs.maps_hold.Goals as goal
use Rattle.tree_laws.specs.Theorems.{all_natural}

pub returns : goal.returns
returns g c = all_natural g.row.R.Denot g.row.M.Denot g.row.F.Denot g.row.Q.Denot g.row.N.Denot g.row.G.Denot
