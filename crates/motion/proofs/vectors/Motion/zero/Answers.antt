use Rattle.std.proofs.Common.{rules}
use Rattle.motion.specs.Vectors.{motion_zero}
use Rattle.motion.proofs.vectors.Motion.zero.Goals as goal

pub returns : goal.returns
unfolding motion_zero
returns g c = search rules
