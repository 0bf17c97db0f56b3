use Rattle.std.proofs.Common.{sym, ◌∙◌}
use Rattle.dual.specs.DualNumbers.{dual_eq}
use Rattle.dual.proofs.DualCopies.{dual_copies}
use Rattle.dual.proofs.dual.DualRing.natural.Goals as goal

pub returns : goal.returns
returns g c =
    dual_eq c.natural.ensures c.zero.ensures ∙ sym (dual_copies g.R.Ring.ring c.args.n g.R.Ring.ring.one)
