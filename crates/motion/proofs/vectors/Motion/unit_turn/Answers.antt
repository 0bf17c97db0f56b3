use Rattle.std.proofs.Common.{rules}
use Rattle.motion.specs.Vectors.{unit_turn}
use Rattle.motion.proofs.vectors.Motion.unit_turn.Goals as goal

pub returns : goal.returns
unfolding unit_turn
returns g c = search rules
