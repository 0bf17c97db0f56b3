use Rattle.spatial_laws.proofs.Maps.{spatial_map}
use Rattle.spatial_laws.proofs.maps_hold.Goals as goal

pub returns : goal.returns
returns g c = λ φ h. spatial_map g.R.Ring.ring g.Q.Ring.ring φ h
