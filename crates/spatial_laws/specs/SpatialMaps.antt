-- Every operation commutes with every ring map.
use Rattle.std.specs.Prelude.{◌≡◌}
use Rattle.std.specs.Option.{option_map}
use Rattle.ring.specs.CommRing.{CommRing}
use Rattle.linear.specs.Matrices.{matrix}
use Rattle.motion.specs.Vectors.{motion, force, motion_zero, motion_add, motion_scale, force_zero, force_add, force_scale, pairing, motion_cross, force_cross}
use Rattle.spatial.specs.Placements.{placement}
use Rattle.spatial.specs.Links.{link, momentum}
use Rattle.motion.specs.declared.vectors.Motion.{Motion}
use Rattle.motion.specs.declared.vectors.Force.{Force}
use Rattle.spatial.specs.declared.link.Link.{Link}
use Rattle.inertia.specs.Inertias.{inertia, of_link, applied, inertia_add, inertia_minus_outer}
use Rattle.inertia.specs.declared.inertia.Inertia.{Inertia}
use Rattle.rotation.specs.Rotations.{quaternion, rotation}
use Rattle.joint.specs.Joints.{joint, axis, own, joint_outward, joint_inward, joint_carried}
use Rattle.rotation.specs.declared.quaternion.Quaternion.{Quaternion}
use Rattle.joint.specs.declared.kind.JointKind.{JointKind}
use Rattle.joint.specs.declared.joint.Joint.{Joint}

-- φ taken entry by entry goes past each operation, and past the absence of a rotation or a position
pub record SpatialMap {N M : Type 0} (k : CommRing N) (l : CommRing M) (φ : N → M) : Type 0 where
  pub motion_zero_map : motion φ (motion_zero k) ≡ motion_zero l
  pub motion_add_map : (a b : Motion N) → motion φ (motion_add k a b) ≡ motion_add l (motion φ a) (motion φ b)
  pub motion_scale_map : (s : N) (a : Motion N) → motion φ (motion_scale k s a) ≡ motion_scale l (φ s) (motion φ a)
  pub force_zero_map : force φ (force_zero k) ≡ force_zero l
  pub force_add_map : (a b : Force N) → force φ (force_add k a b) ≡ force_add l (force φ a) (force φ b)
  pub force_scale_map : (s : N) (a : Force N) → force φ (force_scale k s a) ≡ force_scale l (φ s) (force φ a)
  pub pairing_map : (m : Motion N) (w : Force N) → φ (pairing k m w) ≡ pairing l (motion φ m) (force φ w)
  pub motion_cross_map : (a b : Motion N) → motion φ (motion_cross k a b) ≡ motion_cross l (motion φ a) (motion φ b)
  pub force_cross_map : (m : Motion N) (w : Force N) → force φ (force_cross k m w) ≡ force_cross l (motion φ m) (force φ w)
  pub momentum_map : (b : Link N) (m : Motion N) → force φ (momentum k b m) ≡ momentum l (link φ b) (motion φ m)
  pub of_link_map : (b : Link N) → inertia φ (of_link k b) ≡ of_link l (link φ b)
  pub applied_map : (a : Inertia N) (m : Motion N) → force φ (applied k a m) ≡ applied l (inertia φ a) (motion φ m)
  pub inertia_add_map : (a b : Inertia N) → inertia φ (inertia_add k a b) ≡ inertia_add l (inertia φ a) (inertia φ b)
  pub minus_outer_map :
      (d : N) (u : Force N) (a : Inertia N)
      → inertia φ (inertia_minus_outer k d u a) ≡ inertia_minus_outer l (φ d) (force φ u) (inertia φ a)
  pub rotation_map : (q : Quaternion N) → option_map (matrix φ) (rotation k q) ≡ rotation l (quaternion φ q)
  pub axis_map : (κ : JointKind) → motion φ (axis k κ) ≡ axis l κ
  pub own_map : (κ : JointKind) (t : N) → option_map (placement φ) (own k κ t) ≡ own l κ (φ t)
  pub outward_map : (j : Joint N) (m : Motion N) → motion φ (joint_outward k j m) ≡ joint_outward l (joint φ j) (motion φ m)
  pub inward_map : (j : Joint N) (w : Force N) → force φ (joint_inward k j w) ≡ joint_inward l (joint φ j) (force φ w)
  pub carried_map : (j : Joint N) (a : Inertia N) → inertia φ (joint_carried k j a) ≡ joint_carried l (joint φ j) (inertia φ a)
