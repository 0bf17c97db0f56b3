use Rattle.std.proofs.Common.{◌≡◌, Some, Option, ap, ◌∙◌}
use Rattle.std.specs.Option.{option_map}
use Rattle.ring.specs.CommRing.{CommRing}
use Rattle.spatial.specs.Placements.{placement, turn, turn_norm, turned}
use Rattle.spatial.specs.declared.placement.Placement.{Placement}
use Rattle.spatial.proofs.placement.Placement.turn.Goals as goal

-- What is turned by the inverse of one + square is the turn at t, where these are 1 and t t.
turns :
    {N : Type 0}
    (k : CommRing N)
    (t : N)
    {one square sum : N}
    {i : Option N}
    {r : Option (Placement N)} →
    r ≡ option_map (turned k t) i →
    i ≡ k.inverse sum →
    sum ≡ k.add one square →
    one ≡ k.one →
    square ≡ k.mul t t →
    r ≡ turn k t
unfolding turn_norm
turns k t er ei es eo eq = er ∙ ap (option_map (turned k t)) (ei ∙ ap k.inverse (es ∙ λ j. k.add (eo j) (eq j)))

pub returns-in_err-i : goal.returns-in_err-i
returns-in_err-i g c =
    turns
    g.R.Ring.ring
    (g.R.Ring.value c.args.t)
    (ap (option_map (placement g.R.Ring.value)) c.from_residual.ensures)
    c.in_err-i.ensures
    c.add.ensures
    c.one.ensures
    c.mul.ensures

pub returns : goal.returns
returns g c =
    turns
    g.R.Ring.ring
    (g.R.Ring.value c.args.t)
    (ap Some c.turned.ensures)
    c.in_ok-i.ensures
    c.add.ensures
    c.one.ensures
    c.mul.ensures
