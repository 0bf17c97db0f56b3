use Rattle.std.proofs.Common.{rules}
use Rattle.rotation.specs.Rotations.{rows}
use Rattle.rotation.proofs.quaternion.Quaternion.rows.Goals as goal

pub returns : goal.returns
unfolding rows
returns g c = search rules
