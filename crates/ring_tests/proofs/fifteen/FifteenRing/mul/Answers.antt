use Rattle.std.proofs.Common.{◌*◌, ◌%◌}
use native.Mathlib.Nat.{mod-mod}
use Rattle.ring_tests.specs.Fifteen.{number_eq}
use Rattle.ring_tests.proofs.fifteen.FifteenRing.mul.Goals as goal

pub returns : goal.returns
returns c = number_eq _ _ (mod-mod ((c.args.self.digit % 15) * (c.args.other.digit % 15)) 15)
