use Rattle.pose.proofs.Axis.{turning_is, sliding_is}
use Rattle.pose.proofs.Found.{along_is}
use Rattle.pose.proofs.pose.Pose.along.Goals as goal

pub returns-in-Turn : goal.returns-in-Turn
returns-in-Turn g c =
    let x = g.R.Ring.value c.args.x in
    along_is g.R.Ring.ring g.R.Ring.value c.in-Turn.is x (turning_is g.R.Ring.ring x c.zero-o.ensures)

pub returns-in-Slide : goal.returns-in-Slide
returns-in-Slide g c =
    let x = g.R.Ring.value c.args.x in
    along_is g.R.Ring.ring g.R.Ring.value c.in-Slide.is x (sliding_is g.R.Ring.ring x c.zero-o.ensures)
