use Rattle.std.proofs.Common.{rules}
use Rattle.spatial.specs.Placements.{inward}
use Rattle.spatial.proofs.placement.Placement.inward.Goals as goal

pub returns : goal.returns
unfolding inward
returns g c = search rules
