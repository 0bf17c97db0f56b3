use Rattle.std.proofs.Common.{◌+◌, ◌<◌, length, ◌∙◌, length-set, rules}
use Rattle.rig.proofs.Asked.{few_more, fit_more}
use Rattle.rig.proofs.Given.{low_set}
use Rattle.rig.proofs.rig.Rig.push.Goals as goal

pub offset_bounds-self-k : goal.offset_bounds-self-k
offset_bounds-self-k g c =
    let l : c.args.self.now.n + 1 < length c.args.self.now.slots.now = c.requires.fit in
    search rules

pub invariant_of-self : goal.invariant_of-self
invariant_of-self g c =
    let s = c.args.self.now in
    record {
      full = length-set s.table.rows s.n _ ∙ s.full;
      few = few_more s.n c.requires.few;
      fit = fit_more s.n s.slots.now c.args.slot c.requires.fit;
      low = low_set s.table s.n _ c.requires.low s.low;
    }
