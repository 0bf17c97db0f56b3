-- The numbers that a Word stands for.
use Rattle.std.specs.Prelude.{◌^◌, ◌<◌}
use Rattle.std.proofs.Common.{arith}
use Rattle.ring.specs.CommRing.{CommRing}
use Rattle.ring.specs.Parts.{Parts}
use Rattle.modular.specs.Below.{Below, residue, one_part, one_part_tells}
use Rattle.modular.specs.Modular.{modular}
use Rattle.word.specs.declared.word.Word.{Word}

pub words_big : 1 < 2 ^ 32
words_big = omega arith

abbrev pub words : CommRing (Below (2 ^ 32))
words = modular (2 ^ 32) words_big

abbrev pub word_value : Word → Below (2 ^ 32)
word_value w = residue (2 ^ 32) words_big w.word

pub word_parts_tell : Parts 1 (one_part {m = 2 ^ 32})
word_parts_tell = one_part_tells (2 ^ 32) (omega arith)
