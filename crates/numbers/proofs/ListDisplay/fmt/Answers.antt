use Rattle.std.proofs.Common.{arith, refl, sym}
use Rattle.std.proofs.lemmas.Grind.{put_two, put_three}
use Rattle.std.proofs.lemmas.Option.{slice_get_read}
use Rattle.std.proofs.Output.{has_written_to_eq}
use Rattle.numbers.proofs.Joins.{joined_first, joined_more}
use Rattle.numbers.specs.Texts.{number_text}
use Rattle.numbers.proofs.ListDisplay.fmt.Goals as goal
use Rattle.numbers.proofs.ListDisplay.fmt.Goals.{then-i-gt0+in_ok-write_str, else-i-gt0}

pub loop-i-preserved : goal.loop-i-preserved
loop-i-preserved g c plain =
    let text = λ (x : g.row.R.Denot). number_text (g.R.Ring.parts (g.R.Ring.value x)) in
    let xs = c.args.self.now.0.now in
    let got = slice_get_read xs _ c.loop-i.i c.x-item.result refl c.loop-i-test.true c.x-item.is in
    let so_far = c.loop-i.invariant plain in
    elim c.if-i-gt0.branch [
      | then-i-gt0+in_ok-write_str v ↦
          let blank = has_written_to_eq _ _ _ _ _ v.f-is (v.in_ok-write_str.ensures.writes so_far.plain refl) in
          let number = c.in_ok-write.ensures.writes blank.plain refl in
          put_three _ _ _ _ _ _ _ _ _ so_far blank number (sym (joined_more 32 text xs c.loop-i.i c.x-item.result v.if-i-gt0.true got))
      | else-i-gt0 v ↦
          let here = has_written_to_eq _ _ _ _ _ v.f-is so_far in
          let number = c.in_ok-write.ensures.writes here.plain refl in
          put_two _ _ _ _ _ _ _ here number (sym (joined_first 32 text xs c.loop-i.i c.x-item.result (omega arith) got))
    ]
