-- A joint in its pose: a fixed placement, then its own, a turn by its cosine and sine or a slide by its length.
use Rattle.std.specs.Prelude.{◌≡◌, refl}
use Rattle.ring.specs.CommRing.{CommRing}
use Rattle.spatial.specs.Placements.{placement, slid}
use Rattle.spatial.specs.declared.placement.Placement.{Placement}
use Rattle.joint.specs.declared.kind.JointKind.{JointKind}
use Rattle.joint.specs.declared.kind.JointKind.TheVariants.{Revolute, Prismatic}
use Rattle.joint.specs.declared.joint.Joint.{Joint}
use Rattle.third_axis.specs.Turns.{rotated}
use Rattle.pose.specs.declared.pose.Own.{Own}
use Rattle.pose.specs.declared.pose.Own.TheVariants.{Turn, Slide}
use Rattle.pose.specs.declared.pose.Pose.{Pose}

-- the kind of joint that is placed so
abbrev pub moves : {S : Type 0} → Own S → JointKind
moves (Turn t) = Revolute
moves (Slide s) = Prismatic

-- each number by f
abbrev pub own_pose : {S N : Type 0} → (S → N) → Own S → Own N
own_pose f (Turn t) = Turn (record { cosine = f t.cosine; sine = f t.sine })
own_pose f (Slide s) = Slide (record { length = f s.length })

pub moves_kept : {S N : Type 0} (f : S → N) (o : Own S) → moves (own_pose f o) ≡ moves o
moves_kept f (Turn t) = refl
moves_kept f (Slide s) = refl

abbrev pub pose : {S N : Type 0} → (S → N) → Pose S → Pose N
pose f p = record { fixed = placement f p.fixed; own = own_pose f p.own }

module _ {N : Type 0} (k : CommRing N) where
  -- a joint's own placement: a revolute one's by the cosine and the sine, a prismatic one's by the length
  abbrev pub own_at : JointKind → N → N → N → Placement N
  own_at Revolute c s q = rotated k c s
  own_at Prismatic c s q = slid k q

  abbrev pub placed_so : Own N → Placement N
  placed_so (Turn t) = rotated k t.cosine t.sine
  placed_so (Slide s) = slid k s.length

  -- the joint that a pose stands for
  abbrev pub posed : Pose N → Joint N
  posed p = record { kind = moves p.own; fixed = p.fixed; own = placed_so p.own }
