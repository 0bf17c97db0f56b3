use Rattle.std.proofs.Common.{arith}
use Rattle.ring_tests.specs.Fifteen.{number_eq}
use Rattle.ring_tests.proofs.fifteen.FifteenRing.neg.Goals as goal

pub returns : goal.returns
returns c = number_eq _ _ (omega arith)
