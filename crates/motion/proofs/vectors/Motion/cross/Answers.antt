use Rattle.std.proofs.Common.{rules}
use Rattle.motion.specs.Vectors.{motion_cross}
use Rattle.motion.proofs.vectors.Motion.cross.Goals as goal

pub returns : goal.returns
unfolding motion_cross
returns g c = search rules
