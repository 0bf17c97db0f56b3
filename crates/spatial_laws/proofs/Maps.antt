-- A ring map goes past each operation.
use Rattle.std.proofs.Common.{◌≡◌, Some, None, Option, sym, refl, ap, ◌∙◌}
use Rattle.std.specs.Option.{option_map}
use Rattle.ring.specs.CommRing.{CommRing}
use Rattle.ring.specs.RingMap.{RingMap}
use Rattle.triple.specs.Triples.{triple}
use Rattle.linear.specs.Matrices.{matrix}
use Rattle.triple.specs.declared.triple.Triple.{Triple}
use Rattle.linear.specs.declared.matrix.Matrix3.{Matrix3}
use Rattle.motion.specs.Vectors.{motion, force, motion_zero, unit_turn, unit_slide, motion_add, motion_scale, force_zero, force_add, force_scale, pairing, motion_cross, force_cross}
use Rattle.spatial.specs.Placements.{placement, outward, inward, turn_norm, turned, slid}
use Rattle.spatial.specs.Links.{momentum}
use Rattle.motion.specs.declared.vectors.Motion.{Motion}
use Rattle.motion.specs.declared.vectors.Force.{Force}
use Rattle.spatial.specs.declared.placement.Placement.{Placement}
use Rattle.inertia.specs.Inertias.{inertia, of_link, applied, inertia_add, turned_inertia, shifted_inertia, carried, inertia_minus_outer}
use Rattle.inertia.specs.declared.inertia.Inertia.{Inertia}
use Rattle.rotation.specs.Rotations.{quaternion, norm, rows}
use Rattle.joint.specs.Joints.{axis, own}
use Rattle.rotation.specs.declared.quaternion.Quaternion.{Quaternion}
use Rattle.joint.specs.declared.kind.JointKind.{JointKind}
use Rattle.joint.specs.declared.kind.JointKind.TheVariants.{Revolute, Prismatic}
use Rattle.spatial_laws.specs.SpatialMaps.{SpatialMap}

module _ {N M : Type 0} (k : CommRing N) (l : CommRing M) (φ : N → M) (h : RingMap k l φ) where
  open h use {keeps_zero, keeps_one, keeps_add, keeps_neg, keeps_mul, keeps_inverse}

  outward_map : (p : Placement N) (m : Motion N) → motion φ (outward k p m) ≡ outward l (placement φ p) (motion φ m)
  unfolding outward
  outward_map p m = simp (keeps_add, keeps_neg, keeps_mul)

  inward_map : (p : Placement N) (w : Force N) → force φ (inward k p w) ≡ inward l (placement φ p) (force φ w)
  unfolding inward
  inward_map p w = simp (keeps_add, keeps_neg, keeps_mul)

  turned_map : (e : Matrix3 N) (a : Inertia N) → inertia φ (turned_inertia k e a) ≡ turned_inertia l (matrix φ e) (inertia φ a)
  unfolding turned_inertia
  turned_map e a = simp (keeps_add, keeps_mul)

  shifted_map : (r : Triple N) (a : Inertia N) → inertia φ (shifted_inertia k r a) ≡ shifted_inertia l (triple φ r) (inertia φ a)
  unfolding shifted_inertia
  shifted_map r a = simp (keeps_add, keeps_neg, keeps_mul)

  carried_map : (p : Placement N) (a : Inertia N) → inertia φ (carried k p a) ≡ carried l (placement φ p) (inertia φ a)
  carried_map p a =
      shifted_map p.offset (turned_inertia k p.rotation a)
      ∙ ap (shifted_inertia l (triple φ p.offset)) (turned_map p.rotation a)

  -- what is made with an inverse, where it is made
  by_inverse :
      {A B : Type 0} (f : A → B) (made : N → A) (made' : M → B) → ((i : N) → f (made i) ≡ made' (φ i)) → (n : N)
      → option_map f (option_map made (k.inverse n)) ≡ option_map made' (l.inverse (φ n))
  by_inverse f made made' e n = go (k.inverse n) ∙ ap (option_map made') (sym (keeps_inverse n))
    where
      go : (o : Option N) → option_map f (option_map made o) ≡ option_map made' (option_map φ o)
      go None = refl
      go (Some i) = ap Some (e i)

  rows_map : (q : Quaternion N) (i : N) → matrix φ (rows k q i) ≡ rows l (quaternion φ q) (φ i)
  unfolding rows
  rows_map q i = simp (keeps_add, keeps_neg, keeps_mul)

  norm_map : (q : Quaternion N) → φ (norm k q) ≡ norm l (quaternion φ q)
  unfolding norm
  norm_map q = simp (keeps_add, keeps_mul)

  turn_map : (t i : N) → placement φ (turned k t i) ≡ turned l (φ t) (φ i)
  unfolding turned
  turn_map t i = simp (keeps_zero, keeps_one, keeps_add, keeps_neg, keeps_mul)

  turn_norm_map : (t : N) → φ (turn_norm k t) ≡ turn_norm l (φ t)
  unfolding turn_norm
  turn_norm_map t = simp (keeps_one, keeps_add, keeps_mul)

  slid_map : (q : N) → placement φ (slid k q) ≡ slid l (φ q)
  unfolding slid
  slid_map q = simp (keeps_zero, keeps_one)

  unit_turn_map : motion φ (unit_turn k) ≡ unit_turn l
  unfolding unit_turn
  unit_turn_map = simp (keeps_zero, keeps_one)

  unit_slide_map : motion φ (unit_slide k) ≡ unit_slide l
  unfolding unit_slide
  unit_slide_map = simp (keeps_zero, keeps_one)

  axis_map : (κ : JointKind) → motion φ (axis k κ) ≡ axis l κ
  axis_map Revolute = unit_turn_map
  axis_map Prismatic = unit_slide_map

  own_map : (κ : JointKind) (t : N) → option_map (placement φ) (own k κ t) ≡ own l κ (φ t)
  own_map Revolute t =
      by_inverse (placement φ) (turned k t) (turned l (φ t)) (turn_map t) (turn_norm k t)
      ∙ ap (λ n. option_map (turned l (φ t)) (l.inverse n)) (turn_norm_map t)
  own_map Prismatic q = ap Some (slid_map q)

  pub spatial_map : SpatialMap k l φ
  unfolding motion_zero motion_add motion_scale force_zero force_add force_scale pairing motion_cross force_cross momentum of_link applied inertia_add inertia_minus_outer
  spatial_map =
      record {
        motion_zero_map = simp keeps_zero;
        motion_add_map = λ a b. simp keeps_add;
        motion_scale_map = λ s a. simp keeps_mul;
        force_zero_map = simp keeps_zero;
        force_add_map = λ a b. simp keeps_add;
        force_scale_map = λ s a. simp keeps_mul;
        pairing_map = λ m w. simp (keeps_add, keeps_mul);
        motion_cross_map = λ a b. simp (keeps_add, keeps_neg, keeps_mul);
        force_cross_map = λ m w. simp (keeps_add, keeps_neg, keeps_mul);
        momentum_map = λ b m. simp (keeps_add, keeps_neg, keeps_mul);
        of_link_map = λ b. simp (keeps_zero, keeps_neg);
        applied_map = λ a m. simp (keeps_add, keeps_mul);
        inertia_add_map = λ a b. simp keeps_add;
        minus_outer_map = λ d u a. simp (keeps_add, keeps_neg, keeps_mul);
        rotation_map =
            λ q.
            by_inverse (matrix φ) (rows k q) (rows l (quaternion φ q)) (rows_map q) (norm k q)
            ∙ ap (λ n. option_map (rows l (quaternion φ q)) (l.inverse n)) (norm_map q);
        axis_map = axis_map;
        own_map = own_map;
        outward_map =
            λ j m. outward_map j.own (outward k j.fixed m) ∙ ap (outward l (placement φ j.own)) (outward_map j.fixed m);
        inward_map =
            λ j w. inward_map j.fixed (inward k j.own w) ∙ ap (inward l (placement φ j.fixed)) (inward_map j.own w);
        carried_map =
            λ j a. carried_map j.fixed (carried k j.own a) ∙ ap (carried l (placement φ j.fixed)) (carried_map j.own a);
      }
