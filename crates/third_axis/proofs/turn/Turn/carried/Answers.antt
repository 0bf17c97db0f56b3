use Rattle.std.proofs.Common.{ap}
use Rattle.inertia.specs.Inertias.{inertia}
use Rattle.third_axis.proofs.Blocks.{turn_carried_is}
use Rattle.third_axis.proofs.turn.Turn.carried.Goals as goal

pub returns : goal.returns
returns g c =
    let v = g.R.Ring.value in
    let back = c.back-back.ensures in
    turn_carried_is g.R.Ring.ring (v c.args.self.cosine) (v c.args.self.sine) (inertia v c.args.a)
    (ap v back.cosine) back.sine c.mul-square.ensures c.mul-mixed.ensures c.mul_add-norm.ensures
    c.symmetric.ensures c.matrix.ensures c.symmetric-2.ensures
