-- Joints: a fixed placement, then the joint's own.
use Rattle.std.specs.Prelude.{Some, Option}
use Rattle.ring.specs.CommRing.{CommRing}
use Rattle.motion.specs.Vectors.{unit_turn, unit_slide}
use Rattle.spatial.specs.Placements.{placement, outward, inward, turn, slid}
use Rattle.motion.specs.declared.vectors.Motion.{Motion}
use Rattle.motion.specs.declared.vectors.Force.{Force}
use Rattle.spatial.specs.declared.placement.Placement.{Placement}
use Rattle.inertia.specs.Inertias.{carried}
use Rattle.inertia.specs.declared.inertia.Inertia.{Inertia}
use Rattle.joint.specs.declared.kind.JointKind.{JointKind}
use Rattle.joint.specs.declared.kind.JointKind.TheVariants.{Revolute, Prismatic}
use Rattle.joint.specs.declared.joint.Joint.{Joint}

-- each number by f
abbrev pub joint : {S N : Type 0} → (S → N) → Joint S → Joint N
joint f j = record { kind = j.kind; fixed = placement f j.fixed; own = placement f j.own }

module _ {N : Type 0} (k : CommRing N) where
  -- S: a revolute joint turns about its third axis, a prismatic one slides along it
  abbrev pub axis : JointKind → Motion N
  axis Revolute = unit_turn k
  axis Prismatic = unit_slide k

  -- the joint's own placement at a position: t, the tangent of half the angle, or the length q
  abbrev pub own : JointKind → N → Option (Placement N)
  own Revolute t = turn k t
  own Prismatic q = Some (slid k q)

  -- X: through the fixed placement first, then the joint's own
  abbrev pub joint_outward : Joint N → Motion N → Motion N
  joint_outward j m = outward k j.own (outward k j.fixed m)

  -- X': back through both
  abbrev pub joint_inward : Joint N → Force N → Force N
  joint_inward j w = inward k j.fixed (inward k j.own w)

  -- X' K X
  abbrev pub joint_carried : Joint N → Inertia N → Inertia N
  joint_carried j a = carried k j.fixed (carried k j.own a)
