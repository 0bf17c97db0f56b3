use Rattle.std.proofs.Common.{rules}
use Rattle.motion.specs.Vectors.{motion_add}
use Rattle.motion.proofs.vectors.MotionAdd.add.Goals as goal

pub returns : goal.returns
unfolding motion_add
returns g c = search rules
