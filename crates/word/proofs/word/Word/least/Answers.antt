use Rattle.std.proofs.Common.{refl}
use Rattle.word.specs.Words.{words_big}
use Rattle.modular.specs.Least.{least_of}
use Rattle.word.proofs.word.Word.least.Goals as goal

pub returns : goal.returns
returns c = least_of words_big c.args.n _ refl
