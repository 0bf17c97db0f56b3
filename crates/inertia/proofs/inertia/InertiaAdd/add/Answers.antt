use Rattle.std.proofs.Common.{rules}
use Rattle.inertia.specs.Inertias.{inertia_add}
use Rattle.inertia.proofs.inertia.InertiaAdd.add.Goals as goal

pub returns : goal.returns
unfolding inertia_add
returns g c = search rules
