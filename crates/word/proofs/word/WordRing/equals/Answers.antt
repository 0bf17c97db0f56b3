use Rattle.std.proofs.Common.{◌≡◌, ◌%◌, ◌^◌, refl, arith}
use Rattle.word.specs.Words.{words_big}
use Rattle.modular.specs.Least.{least_of}
use Rattle.word.proofs.word.WordRing.equals.Goals as goal

-- a word is its own least residue
pub returns : goal.returns
returns c =
    let a = c.args.self.word in
    let b = c.args.other.word in
    let e : a ≡ a % 2 ^ 32 = omega arith in
    (least_of words_big a a e).tells b b (omega arith) refl
