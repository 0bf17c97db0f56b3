use Rattle.std.proofs.Common.{rules}
use Rattle.spatial.specs.Placements.{turned}
use Rattle.spatial.proofs.placement.Placement.turned.Goals as goal

pub returns : goal.returns
unfolding turned
returns g c = search rules
