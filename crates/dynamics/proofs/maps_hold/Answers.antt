use Rattle.dynamics.proofs.Maps.{dynamics_map}
use Rattle.dynamics.proofs.maps_hold.Goals as goal

pub returns : goal.returns
returns g c = λ φ h. dynamics_map g.R.Ring.ring g.Q.Ring.ring φ h
