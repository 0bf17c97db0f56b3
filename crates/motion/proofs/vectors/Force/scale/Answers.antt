use Rattle.std.proofs.Common.{rules}
use Rattle.motion.specs.Vectors.{force_scale}
use Rattle.motion.proofs.vectors.Force.scale.Goals as goal

pub returns : goal.returns
unfolding force_scale
returns g c = search rules
