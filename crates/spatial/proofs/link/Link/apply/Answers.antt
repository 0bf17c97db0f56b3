use Rattle.std.proofs.Common.{rules}
use Rattle.spatial.specs.Links.{momentum}
use Rattle.spatial.proofs.link.Link.apply.Goals as goal

pub returns : goal.returns
unfolding momentum
returns g c = search rules
