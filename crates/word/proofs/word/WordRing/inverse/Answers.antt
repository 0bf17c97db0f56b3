use Rattle.std.proofs.Common.{◌≡◌, ℕ, ◌%◌, sym, ap, ◌∙◌, subst, add-one, arith, eq-eqb, ne_eqb}
use Rattle.ring.specs.CommRing.{difference}
use Rattle.ring.specs.Laws.{inverse_of, inverse_missing}
use Rattle.word.specs.Words.{words, word_value}
use Rattle.word.proofs.Newton.{class, two_is, Near, near_first, near_next, near_last, even_missing}
use Rattle.word.proofs.word.WordRing.inverse.Goals as goal

pub returns-then-self-eq0 : goal.returns-then-self-eq0
returns-then-self-eq0 c =
    record {
      is = sym (inverse_missing words (word_value c.args.self) (even_missing c.args.self.word c.if-self-eq0.true));
      odd = sym (ne_eqb _ _ (λ h. omega arith));
    }

pub loop-init : goal.loop-init
loop-init c =
    let odd : c.args.self.word % 2 ≡ 1 = omega (arith, c.if-self-eq0.false) in
    near_first c.args.self.word odd (word_value c.sub-x.result)
    (c.sub-x.ensures ∙ ap (λ y. words.add y (words.neg (word_value c.args.self))) two_is)

pub loop-preserved : goal.loop-preserved
loop-preserved c =
    let a = word_value c.args.self in
    let x = word_value c.loop.x in
    let y = word_value c.mul-x.result in
    let P : ℕ → Type 0 = λ n. Near n a y in
    subst P (sym (add-one c.loop.counter))
    (near_next c.loop.counter a x y
    (c.mul-x.ensures
    ∙ ap (words.mul x)
    (c.sub.ensures
    ∙ ap (difference words (class 2)) c.mul.ensures
    ∙ ap (λ z. words.add z (words.neg (words.mul a x))) two_is))
    c.loop.invariant)

pub returns : goal.returns
returns c =
    record {
      is =
          sym
          (inverse_of words (word_value c.args.self) (word_value c.loop.x)
          (near_last c.loop.counter (word_value c.args.self) (word_value c.loop.x) (omega arith) c.loop.invariant));
      odd = sym (eq-eqb _ _ (omega (arith, c.if-self-eq0.false)));
    }
