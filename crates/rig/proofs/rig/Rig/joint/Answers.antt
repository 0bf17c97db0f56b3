use Rattle.std.proofs.Common.{◌<◌, length, refl, ◌∙◌}
use Rattle.std.proofs.lemmas.List.{get_or_default}
use Rattle.rig.proofs.Asked.{slot_there}
use Rattle.rig.proofs.Held.{held_at}
use Rattle.rig.proofs.rig.Rig.joint.Goals as goal

pub returns-clause-is : goal.returns-clause-is
returns-clause-is g c =
    let s = c.args.self.now in
    let l : c.args.i < length s.slots.now = slot_there s.slots.now s.n c.args.i c.requires.0 c.requires.1 s.fit in
    held_at g.R.Ring.ring g.R.Ring.value s c.args.i c.requires.0 c.requires.1 _ _ refl
    (λ d. c.index-slots-i.is ∙ get_or_default s.slots.now c.args.i _ d l)

pub returns-clause-same : goal.returns-clause-same
returns-clause-same g c =
    let s = c.args.self.now in
    let l : c.args.i < length s.slots.now = slot_there s.slots.now s.n c.args.i c.requires.0 c.requires.1 s.fit in
    λ d. c.index-slots-i.is ∙ get_or_default s.slots.now c.args.i _ d l
