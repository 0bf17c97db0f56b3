use Rattle.std.proofs.Common.{rules}
use Rattle.rotation.proofs.quaternion.Quaternion.rotation.Goals as goal

pub returns-in_err-i : goal.returns-in_err-i
returns-in_err-i g c = let h = c.in_err-i.ensures in search rules

pub returns : goal.returns
returns g c = let h = c.in_ok-i.ensures in search rules
