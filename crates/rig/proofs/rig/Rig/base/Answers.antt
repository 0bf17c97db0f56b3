use Rattle.std.proofs.Common.{◌≡◌, ◌<◌, length, sym, ap, ◌∙◌, arith}
use Rattle.triple.specs.Ops.{ops}
use Rattle.triple.specs.Triples.{triple, neg3}
use Rattle.rig.specs.Holds.{rig_holds}
use Rattle.rig.proofs.Held.{holds_gravity}
use Rattle.rig.proofs.rig.Rig.base.Goals as goal

pub returns : goal.returns
returns g c =
    let s = c.args.self.now in
    let k = g.R.Ring.ring in
    let v = g.R.Ring.value in
    let fit = s.fit in
    let l : 0 < length s.slots.now = omega (arith, c.requires) in
    let down : triple v c.neg.result ≡ neg3 (ops k) (rig_holds k v s).gravity =
    c.neg.ensures ∙ ap (neg3 (ops k)) (sym (holds_gravity k v s c.index-slots-0.result l)) in
    record {
      velocity_is = c.zero.ensures;
      acceleration_is = λ j. record { angular = c.zero-2.ensures j; linear = down j };
    }
