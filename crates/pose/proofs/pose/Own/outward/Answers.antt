use Rattle.motion.specs.Vectors.{motion}
use Rattle.pose.proofs.Found.{outward_is}
use Rattle.pose.proofs.pose.Own.outward.Goals as goal

pub returns-in-Turn : goal.returns-in-Turn
returns-in-Turn g c = outward_is g.R.Ring.ring g.R.Ring.value c.in-Turn.is (motion g.R.Ring.value c.args.m) _ c.outward.ensures

pub returns-in-Slide : goal.returns-in-Slide
returns-in-Slide g c = outward_is g.R.Ring.ring g.R.Ring.value c.in-Slide.is (motion g.R.Ring.value c.args.m) _ c.outward-in-Slide.ensures
