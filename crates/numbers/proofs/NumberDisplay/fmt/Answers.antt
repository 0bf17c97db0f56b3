use Rattle.std.proofs.Common.{arith, ◌≡◌, Some, ◌<◌, ◌-◌, ◌^◌, List, ℕ, length, min, take, map, ◌∙◌, ap}
use Rattle.std.proofs.lemmas.Grind.{common_steps}
use Rattle.std.specs.Fmt.{decimal}
use Rattle.std.specs.List.{slice_get, join_with_byte}
use Rattle.std.proofs.lemmas.Option.{slice_get-get_or}
use Rattle.std.proofs.lemmas.List.{take_min}
use Rattle.std.proofs.Output.{has_written_of_eq}
use Rattle.numbers.proofs.Joins.{joined_first, joined_more}
use Rattle.numbers.specs.Texts.{number_text}
use Rattle.numbers.proofs.NumberDisplay.fmt.Goals as goal
use Rattle.numbers.proofs.NumberDisplay.fmt.Goals.{then-i-gt0+in_ok-write_str, else-i-gt0, in-Some+in_ok-write, in_default}

pub loop-i-preserved : goal.loop-i-preserved
loop-i-preserved g c plain =
    let parts : List ℕ = g.R.Ring.parts (g.R.Ring.value c.args.self.now.0) in
    let counted = g.R.Ring.told.counted (g.R.Ring.value c.args.self.now.0) in
    let within : c.loop-i.i < length parts = omega (arith, c.part_count-i-end.ensures, counted) in
    let so_far = c.loop-i.invariant plain in
    elim c.match-part.branch [
      | in-Some+in_ok-write w ↦
          let got : slice_get parts c.loop-i.i ≡ Some w.in-Some.part = cc (c.part.ensures, w.in-Some.is) in
          elim c.if-i-gt0.branch [
            | then-i-gt0+in_ok-write_str v ↦
                let text = joined_more 44 decimal parts c.loop-i.i w.in-Some.part v.if-i-gt0.true got in
                grind (arith, common_steps)
            | else-i-gt0 v ↦
                let text = joined_first 44 decimal parts c.loop-i.i w.in-Some.part (omega arith) got in
                grind (arith, common_steps)
          ]
      | in_default w ↦ absurd (w.in_default.not-Some _ (c.part.ensures ∙ slice_get-get_or parts c.loop-i.i 0 within))
    ]

pub returns-clause-writes : goal.returns-clause-writes
unfolding number_text
returns-clause-writes g c plain ok =
    let parts : List ℕ = g.R.Ring.parts (g.R.Ring.value c.args.self.now.0) in
    let counted = g.R.Ring.told.counted (g.R.Ring.value c.args.self.now.0) in
    let end : c.loop-i.i ≡ min (2 ^ 64 - 1) (length parts) = omega (arith, c.part_count-i-end.ensures, counted) in
    has_written_of_eq _ _ _ _ _
    (ap (λ n. join_with_byte 44 (map decimal n)) (ap (λ n. take n parts) end ∙ take_min (2 ^ 64 - 1) parts))
    (c.loop-i.invariant plain)
