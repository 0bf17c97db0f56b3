use Rattle.std.proofs.Common.{rules}
use Rattle.motion.specs.Vectors.{force_zero}
use Rattle.motion.proofs.vectors.Force.zero.Goals as goal

pub returns : goal.returns
unfolding force_zero
returns g c = search rules
