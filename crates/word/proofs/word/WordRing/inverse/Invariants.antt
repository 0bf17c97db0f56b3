use Rattle.word.specs.Words.{word_value}
use Rattle.word.proofs.Newton.{Near}
use Rattle.word.proofs.word.WordRing.inverse.Given as goal

abbrev pub invariant-loop : goal.invariant-loop
invariant-loop l = Near l.counter (word_value l.self) (word_value l.x)
