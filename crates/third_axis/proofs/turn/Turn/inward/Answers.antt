use Rattle.std.proofs.Common.{ap}
use Rattle.motion.specs.Vectors.{force}
use Rattle.third_axis.proofs.Vectors.{turned_force_is}
use Rattle.third_axis.proofs.turn.Turn.inward.Goals as goal

pub returns : goal.returns
returns g c =
    let v = g.R.Ring.value in
    let back = c.back-back.ensures in
    turned_force_is g.R.Ring.ring (v c.args.self.cosine) (v c.args.self.sine) (force v c.args.w)
    (ap v back.cosine) back.sine c.apply.ensures c.apply-2.ensures
