use Rattle.inertia.specs.Inertias.{inertia}
use Rattle.pose.proofs.Found.{carried_is}
use Rattle.pose.proofs.pose.Own.carried.Goals as goal

pub returns-in-Turn : goal.returns-in-Turn
returns-in-Turn g c = carried_is g.R.Ring.ring g.R.Ring.value c.in-Turn.is (inertia g.R.Ring.value c.args.a) _ c.carried.ensures

pub returns-in-Slide : goal.returns-in-Slide
returns-in-Slide g c = carried_is g.R.Ring.ring g.R.Ring.value c.in-Slide.is (inertia g.R.Ring.value c.args.a) _ c.carried-in-Slide.ensures
