use Rattle.motion.specs.Vectors.{force}
use Rattle.third_axis.proofs.Vectors.{slid_force_is}
use Rattle.third_axis.proofs.slide.Slide.inward.Goals as goal

pub returns : goal.returns
returns g c =
    let v = g.R.Ring.value in
    slid_force_is g.R.Ring.ring (v c.args.self.length) (force v c.args.w) c.back.ensures c.moved.ensures
