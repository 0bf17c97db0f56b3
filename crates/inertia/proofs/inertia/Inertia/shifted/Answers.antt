use Rattle.std.proofs.Common.{rules}
use Rattle.inertia.specs.Inertias.{shifted_inertia}
use Rattle.inertia.proofs.inertia.Inertia.shifted.Goals as goal

pub returns : goal.returns
unfolding shifted_inertia
returns g c = search rules
