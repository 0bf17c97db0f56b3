use Rattle.motion.specs.Vectors.{motion}
use Rattle.third_axis.proofs.Vectors.{turned_motion_is}
use Rattle.third_axis.proofs.turn.Turn.outward.Goals as goal

pub returns : goal.returns
returns g c =
    let v = g.R.Ring.value in
    turned_motion_is g.R.Ring.ring (v c.args.self.cosine) (v c.args.self.sine) (motion v c.args.m) c.apply.ensures c.apply-2.ensures
