use Rattle.std.proofs.Common.{◌≡◌, ◌/◌, ◌%◌, sym, ap, ◌∙◌, arith}
use Rattle.ring.specs.Laws.{zero_add}
use Rattle.ring.specs.Whole.{copies}
use Rattle.ring.proofs.Copies.{even_copies, odd_copies}
use Rattle.ring.proofs.ring.Ring.natural.Goals as goal
use Rattle.ring.proofs.ring.Ring.natural.Goals.{then-rest-eq1, else-rest-eq1}

pub loop-rest-init : goal.loop-rest-init
loop-rest-init g c =
    let k = g.Self.Ring.ring in
    ap (λ s. k.add s (copies k c.args.n (g.Self.Ring.value c.one-power.result))) c.zero-sum.ensures
    ∙ zero_add k _
    ∙ ap (copies k c.args.n) c.one-power.ensures

pub loop-rest-preserved : goal.loop-rest-preserved
loop-rest-preserved g c =
    let k = g.Self.Ring.ring in
    let v = g.Self.Ring.value in
    let p = v c.loop-rest.power in
    let rest = c.loop-rest.rest in
    let turned = ap (copies k (rest / 2)) c.add-power.ensures in
    elim c.if-rest-eq1.branch [
      | then-rest-eq1 w ↦
          ap (λ s. k.add (v s) (copies k (rest / 2) (v c.add-power.result))) w.sum-is
          ∙ ap (λ s. k.add s (copies k (rest / 2) (v c.add-power.result))) w.add-sum.ensures
          ∙ ap (k.add (k.add (v c.loop-rest.sum) p)) turned
          ∙ k.add_assoc (v c.loop-rest.sum) p (copies k (rest / 2) (k.add p p))
          ∙ ap (k.add (v c.loop-rest.sum)) (sym (odd_copies k rest p w.if-rest-eq1.true))
          ∙ c.loop-rest.invariant
      | else-rest-eq1 w ↦
          let even : rest % 2 ≡ 0 = omega (arith, w.if-rest-eq1.false) in
          ap (λ s. k.add (v s) (copies k (rest / 2) (v c.add-power.result))) w.sum-is
          ∙ ap (k.add (v c.loop-rest.sum)) turned
          ∙ ap (k.add (v c.loop-rest.sum)) (sym (even_copies k rest p even))
          ∙ c.loop-rest.invariant
    ]

pub returns : goal.returns
returns g c =
    let k = g.Self.Ring.ring in
    let v = g.Self.Ring.value in
    let e : c.loop-rest.rest ≡ 0 = omega arith in
    sym (k.add_zero (v c.loop-rest.sum))
    ∙ ap (λ n. k.add (v c.loop-rest.sum) (copies k n (v c.loop-rest.power))) (sym e)
    ∙ c.loop-rest.invariant
