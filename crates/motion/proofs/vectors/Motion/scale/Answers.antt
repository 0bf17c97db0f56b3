use Rattle.std.proofs.Common.{rules}
use Rattle.motion.specs.Vectors.{motion_scale}
use Rattle.motion.proofs.vectors.Motion.scale.Goals as goal

pub returns : goal.returns
unfolding motion_scale
returns g c = search rules
