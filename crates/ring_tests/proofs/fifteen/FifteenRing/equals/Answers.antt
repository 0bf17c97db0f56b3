use Rattle.std.proofs.Common.{ap, arith, eq-eqb, eqb-true}
use Rattle.ring_tests.specs.Fifteen.{number_eq}
use Rattle.ring_tests.proofs.fifteen.FifteenRing.equals.Goals as goal

pub returns : goal.returns
returns c =
    record {
      yes = λ t. number_eq _ _ (omega (arith, eqb-true _ _ t));
      only = λ p. eq-eqb _ _ (omega (arith, ap (λ n. n.at) p));
    }
