-- A joint's own placement at a position is one in a pose.
use mathlib.Core.Path.{◌≡◌, refl}
use Rattle.ring.specs.CommRing.{CommRing}
use Rattle.spatial.specs.Placements.{turned, slid}
use Rattle.joint.specs.declared.kind.JointKind.TheVariants.{Revolute, Prismatic}
use Rattle.third_axis.specs.Turns.{rotated, cosine_at, sine_at}
use Rattle.pose.specs.Poses.{own_at}

module _ {N : Type 0} (k : CommRing N) where
  -- whatever length stands beside them
  pub turned_is : (t i q : N) → turned k t i ≡ own_at k Revolute (cosine_at k t i) (sine_at k t i) q
  unfolding turned rotated
  turned_is t i q = refl

  -- whatever cosine and sine stand beside it
  pub slid_is : (c s q : N) → slid k q ≡ own_at k Prismatic c s q
  slid_is c s q = refl
