use Rattle.inertia.specs.Inertias.{inertia}
use Rattle.third_axis.proofs.Blocks.{slid_inertia_is}
use Rattle.third_axis.proofs.slide.Slide.carried.Goals as goal

pub returns : goal.returns
returns g c =
    let v = g.R.Ring.value in
    slid_inertia_is g.R.Ring.ring (v c.args.self.length) (inertia v c.args.a) c.coupling-coupling.ensures c.angular.ensures
