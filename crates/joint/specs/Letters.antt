-- The letters that name the kinds of joint.
use Rattle.std.specs.Prelude.{◌≡◌, ℕ, cond, ◌==◌, Some, None, Option, Result, MatchResult}
use Rattle.joint.specs.declared.kind.JointKind.{JointKind}
use Rattle.joint.specs.declared.kind.JointKind.TheVariants.{Revolute, Prismatic}
use Rattle.joint.specs.declared.kind.UnknownKind.{UnknownKind}

-- R a revolute joint, P a prismatic one, and no other letter any
abbrev pub kind_of : ℕ → Option JointKind
kind_of letter = cond (letter == 82) (Some Revolute) (cond (letter == 80) (Some Prismatic) None)

-- the kind that a letter names, or the letter where it names none
abbrev pub NamedBy : ℕ → Result JointKind UnknownKind → Type 0
NamedBy letter r = MatchResult r (λ κ. kind_of letter ≡ Some κ) (λ e. (kind_of letter ≡ None) × (e.0 ≡ letter))
