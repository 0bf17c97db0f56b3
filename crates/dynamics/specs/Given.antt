-- A rig by the numbers that are given for it.
use Rattle.std.specs.Prelude.{ℕ, ◌-◌, List, [], ◌∷◌, length, get_or, Some, None, Option, slice_index_or}
use Rattle.ring.specs.CommRing.{CommRing}
use Rattle.triple.specs.Ops.{ops}
use Rattle.triple.specs.Triples.{zero3}
use Rattle.triple.specs.declared.triple.Triple.{Triple}
use Rattle.linear.specs.declared.matrix.Matrix3.{Matrix3}
use Rattle.spatial.specs.Placements.{slid}
use Rattle.spatial.specs.declared.placement.Placement.{Placement}
use Rattle.spatial.specs.declared.link.Link.{Link}
use Rattle.rotation.specs.Rotations.{rotation}
use Rattle.joint.specs.Joints.{own}
use Rattle.rotation.specs.declared.quaternion.Quaternion.{Quaternion}
use Rattle.joint.specs.declared.kind.JointKind.{JointKind}
use Rattle.joint.specs.declared.kind.JointKind.TheVariants.{Prismatic}
use Rattle.joint.specs.declared.joint.Joint.{Joint}
use Rattle.dynamics.specs.Held.{Held}

-- a joint and its state, as given
pub record Given (N : Type 0) : Type 0 where
  pub parent : ℕ
  pub kind : JointKind
  pub offset : Triple N
  pub turn : Quaternion N
  pub link : Link N
  pub position : N
  pub rate : N
  pub acceleration : N
  pub force : N

module _ {N : Type 0} (k : CommRing N) where
  abbrev pub placed_by : Given N → Option (Matrix3 N) → Option (Placement N) → Option (Joint N)
  placed_by g (Some e) (Some p) =
      Some (record { kind = g.kind; fixed = record { rotation = e; offset = g.offset }; own = p })
  placed_by g (Some e) None = None
  placed_by g None o = None

  -- the joint at its position: none where N or 1 + t t is no unit
  abbrev pub placed : Given N → Option (Joint N)
  placed g = placed_by g (rotation k g.turn) (own k g.kind g.position)

  abbrev and_rest : Option (Joint N) → Option (List (Joint N)) → Option (List (Joint N))
  and_rest (Some j) (Some js) = Some (j ∷ js)
  and_rest (Some j) None = None
  and_rest None o = None

  abbrev pub all_placed : List (Given N) → Option (List (Joint N))
  all_placed [] = Some []
  all_placed (g ∷ gs) = and_rest (placed g) (all_placed gs)

  -- what stands in a table past its end
  abbrev pub blank : Given N
  blank =
      record {
        parent = 0;
        kind = Prismatic;
        offset = zero3 (ops k);
        turn = record { a = k.one; b = k.zero; c = k.zero; d = k.zero };
        link =
            record {
              mass = k.zero;
              first_moment = zero3 (ops k);
              inertia = record { xx = k.zero; xy = k.zero; xz = k.zero; yy = k.zero; yz = k.zero; zz = k.zero };
            };
        position = k.zero;
        rate = k.zero;
        acceleration = k.zero;
        force = k.zero;
      }

  abbrev pub blank_joint : Joint N
  blank_joint = record { kind = Prismatic; fixed = slid k k.zero; own = slid k k.zero }

  abbrev with_joints : Triple N → List (Given N) → Option (List (Joint N)) → Option (Held N)
  with_joints gravity gs None = None
  with_joints gravity gs (Some js) =
      Some
      (record {
        n = length gs;
        gravity = gravity;
        parent = λ i. (get_or gs (i - 1) blank).parent;
        joints = λ i. slice_index_or js (i - 1) blank_joint;
        links = λ i. (get_or gs (i - 1) blank).link;
        rate = λ i. (get_or gs (i - 1) blank).rate;
        acceleration = λ i. (get_or gs (i - 1) blank).acceleration;
        force = λ i. (get_or gs (i - 1) blank).force;
      })

  -- joints 1, 2, .. in the list's order: none where one of them has no placement
  abbrev pub rig : Triple N → List (Given N) → Option (Held N)
  rig gravity gs = with_joints gravity gs (all_placed gs)
