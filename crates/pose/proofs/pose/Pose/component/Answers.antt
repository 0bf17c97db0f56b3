use Rattle.motion.specs.Vectors.{force}
use Rattle.pose.proofs.Axis.{component_turn, component_slide}
use Rattle.pose.proofs.Found.{component_is}
use Rattle.pose.proofs.pose.Pose.component.Goals as goal

pub returns-in-Turn : goal.returns-in-Turn
returns-in-Turn g c =
    let x = force g.R.Ring.value c.args.w in
    component_is g.R.Ring.ring g.R.Ring.value c.in-Turn.is x (component_turn g.R.Ring.ring x)

pub returns-in-Slide : goal.returns-in-Slide
returns-in-Slide g c =
    let x = force g.R.Ring.value c.args.w in
    component_is g.R.Ring.ring g.R.Ring.value c.in-Slide.is x (component_slide g.R.Ring.ring x)
