use Rattle.std.proofs.Common.{◌≡◌, ◌<◌, length, sym, subst, arith}
use Rattle.rig.proofs.Outward.{set_cases}
use Rattle.rig.proofs.rig.matrix.clear.Goals as goal

pub loop-entry-preserved : goal.loop-entry-preserved
loop-entry-preserved g c j l d =
    let k = g.R.Ring.ring in
    let v = g.R.Ring.value in
    let i = c.loop-entry.entry-index in
    let there : i < length c.loop-entry.entry-items = subst (λ n. i < n) (sym c.loop-entry.auto.entry-items) c.loop-entry-test.true in
    set_cases (λ j y. v y ≡ k.zero) c.loop-entry.entry-items i c.zero-zero.result there c.zero-zero.ensures j d
    (λ ne. c.loop-entry.invariant j (omega arith) d)

pub returns : goal.returns
returns g c j l d = let all = c.loop-entry-test.false in c.loop-entry.invariant j (omega arith) d
