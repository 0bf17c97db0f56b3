use Rattle.figures.proofs.Figures.{known}
use Rattle.figures.proofs.known_figures.Goals as goal

pub returns : goal.returns
returns g c = known g.R.Ring.ring
