use Rattle.std.proofs.Common.{◌≡◌, true, length, pos, is_some, Some, Ok, Err, sym, ap, ◌∙◌, w64, to_z, of_z}
use Rattle.std.proofs.lemmas.Int.{to_z-of_z}
use Rattle.std.specs.Option.{option_map}
use Rattle.std.proofs.lemmas.Result.{err_from_is_err_and}
use Rattle.refusal.specs.declared.Refusal.TheVariants.{NoParent, NoRotation}
use Rattle.linear.specs.Matrices.{matrix}
use Rattle.rotation.specs.Rotations.{quaternion, norm, rows, rotation}
use Rattle.rig.specs.Questions.{is_parent, has_room}
use Rattle.rig.specs.Calls.{Added}
use Rattle.rig.proofs.Asked.{room_no, few_no, room_yes, parent_yes, is_some_mapped, no_room, no_parent, no_kind, no_rotation, adds, within_some, within_none, no_parent_between, handed_on}
use Rattle.rig.proofs.Given.{added_true}
use Rattle.rig.proofs.rig.Rig.add.Goals as goal
use Rattle.rig.proofs.rig.Rig.add.Goals.{then-self-ge24-via-then-self-ge24, then-self-ge24-via-else-self-ge24+then-self}

pub returns-then-self-ge24-clause-answer : goal.returns-then-self-ge24-clause-answer
returns-then-self-ge24-clause-answer g c =
    let s = c.args.self.now in
    let q = quaternion g.R.Ring.value c.args.turn in
    let slots = length s.slots.now in
    no_room g.R.Ring.ring s.n slots c.args.parent c.args.letter q
    (elim c.then-self-ge24.branch [
      | then-self-ge24-via-then-self-ge24 w ↦ few_no s.n slots w.if-self-ge24.true
      | then-self-ge24-via-else-self-ge24+then-self w ↦ room_no s.n slots w.if-self.true
    ])

pub returns-in_err-parent-clause-answer : goal.returns-in_err-parent-clause-answer
returns-in_err-parent-clause-answer g c =
    let s = c.args.self.now in
    let q = quaternion g.R.Ring.value c.args.turn in
    let slots = length s.slots.now in
    let room : has_room s.n slots ≡ true = room_yes s.n slots c.if-self.false c.if-self-ge24.false in
    let none = within_none 0 s.n (to_z w64 (of_z w64 c.args.parent)) c.in_err-parent.ensures.ok_part c.within.ensures in
    let is = sym (to_z-of_z w64 c.args.parent c.ranges.parent) in
    handed_on c.from_residual.result NoParent c.from_residual.ensures.1 c.in_err-parent.ensures.value c.in_err-parent.ensures.ok_part
    ∙ no_parent g.R.Ring.ring s.n slots c.args.parent c.args.letter q room (ap (is_parent s.n) is ∙ no_parent_between s.n _ none)

pub returns-in_err-kind-clause-answer : goal.returns-in_err-kind-clause-answer
returns-in_err-kind-clause-answer g c =
    let s = c.args.self.now in
    let q = quaternion g.R.Ring.value c.args.turn in
    let slots = length s.slots.now in
    let room : has_room s.n slots ≡ true = room_yes s.n slots c.if-self.false c.if-self-ge24.false in
    let h = within_some 0 s.n (to_z w64 (of_z w64 c.args.parent)) c.in_ok-parent.ensures.ok_part c.within.ensures in
    let e : c.args.parent ≡ pos c.in_ok-parent.parent = sym (to_z-of_z w64 c.args.parent c.ranges.parent) ∙ h.0 in
    let parent : is_parent s.n c.args.parent ≡ true = parent_yes s.n c.in_ok-parent.parent c.args.parent e h.2 in
    let p = err_from_is_err_and c.from_residual-in_err-kind.result c.from_residual-in_err-kind.ensures.1 in
    (p.1 ∙ ap Err p.2) ∙ no_kind g.R.Ring.ring s.n slots c.args.parent c.args.letter q room parent (ap is_some c.in_err-kind.ensures.0)

pub returns-in_err-rotation-clause-answer : goal.returns-in_err-rotation-clause-answer
returns-in_err-rotation-clause-answer g c =
    let s = c.args.self.now in
    let k = g.R.Ring.ring in
    let q = quaternion g.R.Ring.value c.args.turn in
    let slots = length s.slots.now in
    let room : has_room s.n slots ≡ true = room_yes s.n slots c.if-self.false c.if-self-ge24.false in
    let h = within_some 0 s.n (to_z w64 (of_z w64 c.args.parent)) c.in_ok-parent.ensures.ok_part c.within.ensures in
    let e : c.args.parent ≡ pos c.in_ok-parent.parent = sym (to_z-of_z w64 c.args.parent c.ranges.parent) ∙ h.0 in
    let parent : is_parent s.n c.args.parent ≡ true = parent_yes s.n c.in_ok-parent.parent c.args.parent e h.2 in
    let none = c.in_err-rotation.ensures.ok_part in
    handed_on c.from_residual-in_err-rotation.result NoRotation c.from_residual-in_err-rotation.ensures.1 c.in_err-rotation.ensures.value none
    ∙ no_rotation k s.n slots c.args.parent c.args.letter q room parent (ap is_some c.in_ok-kind.ensures)
    (sym (is_some_mapped (rows k q) (k.inverse (norm k q))) ∙ ap is_some (sym c.rotation.ensures) ∙ is_some_mapped (matrix g.R.Ring.value) c.rotation.result ∙ ap is_some none)

pub push-requires : goal.push-requires
push-requires g c =
    let s = c.args.self.now in
    let h = within_some 0 s.n (to_z w64 (of_z w64 c.args.parent)) c.in_ok-parent.ensures.ok_part c.within.ensures in
    record { few = c.if-self-ge24.false; fit = c.if-self.false; low = h.2 }

pub returns : goal.returns
returns g c =
    let s = c.args.self.now in
    let k = g.R.Ring.ring in
    let v = g.R.Ring.value in
    let q = quaternion v c.args.turn in
    let slots = length s.slots.now in
    let room : has_room s.n slots ≡ true = room_yes s.n slots c.if-self.false c.if-self-ge24.false in
    let h = within_some 0 s.n (to_z w64 (of_z w64 c.args.parent)) c.in_ok-parent.ensures.ok_part c.within.ensures in
    let e : c.args.parent ≡ pos c.in_ok-parent.parent = sym (to_z-of_z w64 c.args.parent c.ranges.parent) ∙ h.0 in
    let parent : is_parent s.n c.args.parent ≡ true = parent_yes s.n c.in_ok-parent.parent c.args.parent e h.2 in
    let some = c.in_ok-rotation.ensures.ok_part in
    let turned : rotation k q ≡ Some (matrix v c.in_ok-rotation.rotation) = sym c.rotation.ensures ∙ ap (option_map (matrix v)) some in
    let a : Added k v s _ c.args.parent c.args.letter c.args.offset c.args.turn c.args.link =
    record {
      n = c.push.ensures.n;
      kind = c.in_ok-kind.kind;
      kind_is = c.in_ok-kind.ensures;
      parent_number = c.in_ok-parent.parent;
      parent_is = e;
      table = c.push.ensures.table;
      new_slot = c.at_rest-slot.result;
      fresh = c.at_rest-slot.ensures turned;
      slots = c.push.ensures.slots;
    } in
    record {
      answer =
          ap Ok c.push.ensures.number
          ∙ adds k s.n slots c.args.parent c.args.letter q room parent (ap is_some c.in_ok-kind.ensures)
          (sym (is_some_mapped (rows k q) (k.inverse (norm k q))) ∙ ap is_some turned);
      after = a;
      keeps =
          added_true k v _ _ c.args.parent c.args.letter c.args.offset c.args.turn c.args.link a
          c.if-self-ge24.false c.if-self.false;
      lent = c.push.ensures.lent;
    }
