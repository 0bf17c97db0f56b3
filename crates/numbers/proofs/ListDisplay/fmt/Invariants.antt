use Rattle.std.proofs.Common.{take}
use Rattle.std.specs.Fmt.{HasWritten, IsPlainFormatter}
use Rattle.numbers.specs.Texts.{number_text, list_text}
use Rattle.numbers.proofs.ListDisplay.fmt.Given as goal

abbrev pub invariant-loop-i : goal.invariant-loop-i
invariant-loop-i g l =
    IsPlainFormatter l.fn.f
    → HasWritten g.W.Write.write_str_gives l.fn.f
    (list_text (λ x. number_text (g.R.Ring.parts (g.R.Ring.value x))) (take l.i l.self.0.now))
    l.f
