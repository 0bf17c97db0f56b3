use Rattle.std.proofs.Common.{rules}
use Rattle.motion.specs.Vectors.{pairing}
use Rattle.motion.proofs.vectors.Motion.dot.Goals as goal

pub returns : goal.returns
unfolding pairing
returns g c = search rules
