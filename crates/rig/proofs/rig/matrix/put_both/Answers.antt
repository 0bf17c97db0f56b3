use Rattle.std.proofs.Common.{◌+◌, ◌*◌, ◌<◌, length, arith, rules}
use Rattle.rig.proofs.Climb.{cell_below}
use Rattle.rig.proofs.rig.matrix.put_both.Goals as goal

pub offset_bounds-matrix-a : goal.offset_bounds-matrix-a
offset_bounds-matrix-a g c =
    let b = cell_below c.args.n c.args.a c.args.b c.requires.row c.requires.column in
    let l : c.args.a * c.args.n + c.args.b < length c.args.matrix.now = omega (arith, b, c.requires.room) in
    search rules

pub offset_bounds-matrix-b : goal.offset_bounds-matrix-b
offset_bounds-matrix-b g c =
    let b = cell_below c.args.n c.args.b c.args.a c.requires.column c.requires.row in
    let l : c.args.b * c.args.n + c.args.a < length c.args.matrix.now = omega (arith, b, c.requires.room) in
    search rules
