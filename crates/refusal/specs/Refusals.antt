-- The refusals: the number of the question that got a no, and the joint that is named.
use Rattle.std.specs.Prelude.{ℕ, List, ◌++◌, codes}
use Rattle.std.specs.Fmt.{decimal}
use Rattle.refusal.specs.declared.Refusal.{Refusal}
use Rattle.refusal.specs.declared.Refusal.TheVariants.{NoSlot, NoParent, NoKind, NoRotation, NoJoint, NoPosition, ShortResult, ShortWork}

abbrev pub number : Refusal → ℕ
number NoSlot = 1
number NoParent = 2
number NoKind = 3
number NoRotation = 4
number NoJoint = 5
number (NoPosition j) = 6
number ShortResult = 7
number ShortWork = 8

-- 0 where no joint is named
abbrev pub joint : Refusal → ℕ
joint NoSlot = 0
joint NoParent = 0
joint NoKind = 0
joint NoRotation = 0
joint NoJoint = 0
joint (NoPosition j) = j
joint ShortResult = 0
joint ShortWork = 0

-- what `{}` writes of a refusal, as `refused 6, joint 2`
abbrev pub refusal_text : Refusal → List ℕ
refusal_text refusal = codes "refused " ++ decimal (number refusal) ++ codes ", joint " ++ decimal (joint refusal)
