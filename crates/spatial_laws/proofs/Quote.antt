-- Terms for the entries of an inertia.
use Rattle.std.proofs.Common.{ℕ, ◌+◌, List, ◌++◌}
use Rattle.ring.proofs.Solve.{Term}
use Rattle.spatial.proofs.Quote.{symmetric_vars, matrix_vars, symmetric_list, matrix_list}
use Rattle.inertia.specs.declared.inertia.Inertia.{Inertia}

-- variables for the entries, numbered from n
abbrev pub inertia_vars : ℕ → Inertia Term
inertia_vars n = record { angular = symmetric_vars n; coupling = matrix_vars (n + 6); linear = symmetric_vars (n + 15) }

-- the entries themselves, in the same order
abbrev pub inertia_list : {N : Type 0} → Inertia N → List N
inertia_list k = symmetric_list k.angular ++ (matrix_list k.coupling ++ symmetric_list k.linear)
