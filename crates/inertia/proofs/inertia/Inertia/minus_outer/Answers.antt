use Rattle.std.proofs.Common.{rules}
use Rattle.inertia.specs.Inertias.{inertia_minus_outer}
use Rattle.inertia.proofs.inertia.Inertia.minus_outer.Goals as goal

pub returns : goal.returns
unfolding inertia_minus_outer
returns g c = search rules
