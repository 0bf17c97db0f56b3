use Rattle.motion.specs.Vectors.{motion}
use Rattle.third_axis.proofs.Vectors.{slid_motion_is}
use Rattle.third_axis.proofs.slide.Slide.outward.Goals as goal

pub returns : goal.returns
returns g c =
    let v = g.R.Ring.value in
    slid_motion_is g.R.Ring.ring (v c.args.self.length) (motion v c.args.m) c.moved.ensures
