use Rattle.tree_laws.proofs.masses_laws_hold.Goals as goal
use Rattle.tree_laws.specs.Theorems.{mass_is_right, mass_is_symmetric}

pub returns : goal.returns
returns g c = (mass_is_right g.row.R.Denot g.row.M.Denot g.row.F.Denot, mass_is_symmetric g.row.R.Denot g.row.M.Denot g.row.F.Denot)
