-- The equation of motion of a link on a fixed axis.
use Rattle.std.specs.Prelude.{Option}
use Rattle.std.specs.Option.{option_map}
use Rattle.ring.specs.CommRing.{CommRing}
use Rattle.triple.specs.Ops.{Ops, ops}
use Rattle.spatial.specs.Placements.{turn_norm}
use Rattle.pendulum.specs.declared.Pendulum.{Pendulum}

-- J₃₃ q̈ + h₁ (s g₁ − C g₂) + h₂ (C g₁ + s g₂), with C = (1 − t t) i and s = 2 t i: the rate is not in it
abbrev pub equation_by : {N : Type 0} → Ops N → Pendulum N → N → N
equation_by o p i =
    let t = p.position in
    let c = o.mul (o.add o.one (o.neg (o.mul t t))) i in
    let s = o.mul (o.add t t) i in
    let g = p.gravity in
    let h = p.link.first_moment in
    o.add
    (o.add (o.mul p.link.inertia.zz p.acceleration)
    (o.mul h.x (o.add (o.mul s g.x) (o.neg (o.mul c g.y)))))
    (o.mul h.y (o.add (o.mul c g.x) (o.mul s g.y)))

-- its torque, or none where 1 + t t is no unit
abbrev pub equation : {N : Type 0} → CommRing N → Pendulum N → Option N
equation k p = option_map (equation_by (ops k) p) (k.inverse (turn_norm k p.position))
