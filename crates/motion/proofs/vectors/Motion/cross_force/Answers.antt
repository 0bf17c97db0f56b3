use Rattle.std.proofs.Common.{rules}
use Rattle.motion.specs.Vectors.{force_cross}
use Rattle.motion.proofs.vectors.Motion.cross_force.Goals as goal

pub returns : goal.returns
unfolding force_cross
returns g c = search rules
