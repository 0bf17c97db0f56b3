use Rattle.std.proofs.Common.{rules}
use Rattle.spatial.specs.Placements.{outward}
use Rattle.spatial.proofs.placement.Placement.outward.Goals as goal

pub returns : goal.returns
unfolding outward
returns g c = search rules
