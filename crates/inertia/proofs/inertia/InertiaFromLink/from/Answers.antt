use Rattle.std.proofs.Common.{rules}
use Rattle.inertia.specs.Inertias.{of_link}
use Rattle.inertia.proofs.inertia.InertiaFromLink.from.Goals as goal

pub returns : goal.returns
unfolding of_link
returns g c = search rules
