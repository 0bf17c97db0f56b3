use Rattle.motion.specs.Vectors.{force}
use Rattle.pose.proofs.Found.{inward_is}
use Rattle.pose.proofs.pose.Own.inward.Goals as goal

pub returns-in-Turn : goal.returns-in-Turn
returns-in-Turn g c = inward_is g.R.Ring.ring g.R.Ring.value c.in-Turn.is (force g.R.Ring.value c.args.w) _ c.inward.ensures

pub returns-in-Slide : goal.returns-in-Slide
returns-in-Slide g c = inward_is g.R.Ring.ring g.R.Ring.value c.in-Slide.is (force g.R.Ring.value c.args.w) _ c.inward-in-Slide.ensures
