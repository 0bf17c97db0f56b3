use Rattle.std.proofs.Common.{◌≡◌, ◌<◌, ◌≤◌, List, [], ◌∷◌, length, get_or, set, arith}
use Rattle.ring.specs.CommRing.{CommRing}
use Rattle.triple.specs.Ops.{ops}
use Rattle.triple.specs.Triples.{triple, zero3}
use Rattle.triple.specs.declared.triple.Triple.{Triple}
use Rattle.rig.specs.declared.slot.Slot.{Slot}
use Rattle.rig.specs.Calls.{Begun, with_gravity}
use Rattle.rig.proofs.rig.Rig.new.Goals as goal
use Rattle.rig.proofs.rig.Rig.new.Goals.{then-slots-gt0, else-slots-gt0}

begun :
    {S N : Type 0} (k : CommRing N) (v : S → N) (xs ys : List (Slot S)) (g : Triple S) (d : Slot S) → triple v g ≡ zero3 (ops k)
    → 0 < length xs → ys ≡ set xs 0 (with_gravity g (get_or xs 0 d)) → Begun k v xs ys
begun k v [] ys g d z l e = absurd (omega arith)
begun k v (x ∷ xs) ys g d z l e = (g, z, e)

begun_none : {S N : Type 0} (k : CommRing N) (v : S → N) (xs ys : List (Slot S)) → length xs ≤ 0 → ys ≡ xs → Begun k v xs ys
begun_none k v [] ys l e = e
begun_none k v (x ∷ xs) ys l e = absurd (omega arith)

pub returns-clause-slots : goal.returns-clause-slots
returns-clause-slots g c =
    let k = g.R.Ring.ring in
    let v = g.R.Ring.value in
    elim c.if-slots-gt0.branch [
      | then-slots-gt0 w ↦
          begun k v c.args.slots.now c.if-slots-gt0.slots w.zero.result w.index-slots-0.result w.zero.ensures
          w.if-slots-gt0.true w.slots-is
      | else-slots-gt0 w ↦ begun_none k v c.args.slots.now c.if-slots-gt0.slots w.if-slots-gt0.false w.slots-is
    ]
