use Rattle.inertia.specs.Inertias.{inertia}
use Rattle.pose.proofs.Axis.{column_turn, column_slide}
use Rattle.pose.proofs.Found.{column_is}
use Rattle.pose.proofs.pose.Pose.column.Goals as goal

pub returns-in-Turn : goal.returns-in-Turn
returns-in-Turn g c =
    let x = inertia g.R.Ring.value c.args.a in
    column_is g.R.Ring.ring g.R.Ring.value c.in-Turn.is x (column_turn g.R.Ring.ring x)

pub returns-in-Slide : goal.returns-in-Slide
returns-in-Slide g c =
    let x = inertia g.R.Ring.value c.args.a in
    column_is g.R.Ring.ring g.R.Ring.value c.in-Slide.is x (column_slide g.R.Ring.ring x)
