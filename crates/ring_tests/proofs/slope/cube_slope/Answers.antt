use Rattle.std.proofs.Common.{refl, ap, ◌∙◌}
use Rattle.dual.specs.DualNumbers.{dual, duals}
use Rattle.ring.proofs.Solve.{Term, var, nil, unit, ◌⊕◌, ◌⊗◌, solve}
use Rattle.ring_tests.specs.Cubes.{cubed}
use Rattle.ring_tests.proofs.slope.cube_slope.Goals as goal

abbrev x : Term
x = var 0

-- what stands beside e in the cube of x + e
abbrev beside : Term
beside = x ⊗ x ⊗ unit ⊕ (x ⊗ unit ⊕ unit ⊗ x) ⊗ x

abbrev three : Term
three = nil ⊕ unit ⊕ unit ⊕ unit

pub returns : goal.returns
returns g c =
    let k = g.R.Ring.ring in
    let at = g.R.Ring.value c.args.x in
    ap (λ y. y.second) c.cube.ensures
    ∙ ap (λ y. (cubed (duals k) (dual at y)).second) c.one.ensures
    ∙ solve k (λ i. at) beside (three ⊗ x ⊗ x) refl
