use Rattle.std.proofs.Common.{rules}
use Rattle.motion.specs.Vectors.{force_add}
use Rattle.motion.proofs.vectors.ForceAdd.add.Goals as goal

pub returns : goal.returns
unfolding force_add
returns g c = search rules
