use Rattle.std.proofs.Common.{rules}
use Rattle.ring.proofs.ring.Ring.sub.Goals as goal

pub returns : goal.returns
returns g c = search rules
