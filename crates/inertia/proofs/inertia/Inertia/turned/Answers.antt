use Rattle.std.proofs.Common.{rules}
use Rattle.inertia.specs.Inertias.{turned_inertia}
use Rattle.inertia.proofs.inertia.Inertia.turned.Goals as goal

pub returns : goal.returns
unfolding turned_inertia
returns g c = search rules
