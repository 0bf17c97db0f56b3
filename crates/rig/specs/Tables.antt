-- The table of a rig: row k has the parent and the kind of joint k + 1.
use Rattle.std.specs.Prelude.{ℕ, ◌<◌, ◌≤◌, slice_index_or, slice_set}
use Rattle.joint.specs.declared.kind.JointKind.{JointKind}
use Rattle.joint.specs.declared.kind.JointKind.TheVariants.{Revolute}
use Rattle.rig.specs.declared.table.Row.{Row}
use Rattle.rig.specs.declared.table.Table.{Table}

abbrev pub row : ℕ → JointKind → Row
row p κ = record { parent = p; kind = κ }

-- what a new rig has in every row
abbrev pub blank_row : Row
blank_row = row 0 Revolute

abbrev pub row_at : Table → ℕ → Row
row_at t k = slice_index_or t.rows k blank_row

abbrev pub with_row : Table → ℕ → Row → Table
with_row t k r = record { rows = slice_set t.rows k r }

-- the parents of the joints 1 to n are lower than they
abbrev pub Low : ℕ → Table → Type 0
Low n t = (k : ℕ) → k < n → (row_at t k).parent ≤ k
