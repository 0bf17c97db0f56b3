use Rattle.std.proofs.Common.{◌≡◌, true, pos, nat_abs, ap, ◌∙◌, w64}
use lib.Signed.{lt_z}
use Rattle.std.proofs.lemmas.Int.{to_z-of_z}
use Rattle.ring.proofs.Copies.{negative_whole}
use Rattle.ring.proofs.ring.whole.Goals as goal

pub returns-then-k-lt0 : goal.returns-then-k-lt0
returns-then-k-lt0 g c =
    let k = g.R.Ring.ring in
    let same = to_z-of_z w64 c.args.k c.ranges.k in
    let low : lt_z c.args.k (pos 0) ≡ true = rw same at c.if-k-lt0.true in
    c.neg.ensures ∙ ap k.neg c.natural-size.ensures ∙ negative_whole k c.args.k c.unsigned_abs.result low (c.unsigned_abs.ensures.value ∙ ap nat_abs same)
