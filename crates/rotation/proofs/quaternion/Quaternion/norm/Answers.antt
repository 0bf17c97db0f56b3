use Rattle.std.proofs.Common.{rules}
use Rattle.rotation.specs.Rotations.{norm}
use Rattle.rotation.proofs.quaternion.Quaternion.norm.Goals as goal

pub returns : goal.returns
unfolding norm
returns g c = search rules
