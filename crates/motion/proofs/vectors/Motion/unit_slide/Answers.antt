use Rattle.std.proofs.Common.{rules}
use Rattle.motion.specs.Vectors.{unit_slide}
use Rattle.motion.proofs.vectors.Motion.unit_slide.Goals as goal

pub returns : goal.returns
unfolding unit_slide
returns g c = search rules
