use Rattle.std.proofs.Common.{rules}
use Rattle.inertia.specs.Inertias.{applied}
use Rattle.inertia.proofs.inertia.Inertia.apply.Goals as goal

pub returns : goal.returns
unfolding applied
returns g c = search rules
