use Rattle.dynamics.proofs.Laws.{dynamics_laws}
use Rattle.dynamics.proofs.laws_hold.Goals as goal

pub returns : goal.returns
returns g c = dynamics_laws g.R.Ring.ring
