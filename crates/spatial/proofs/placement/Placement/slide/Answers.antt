use Rattle.std.proofs.Common.{rules}
use Rattle.spatial.specs.Placements.{slid}
use Rattle.spatial.proofs.placement.Placement.slide.Goals as goal

pub returns : goal.returns
unfolding slid
returns g c = search rules
