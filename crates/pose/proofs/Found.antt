-- What a joint's kind says of its own placement, where the code found which kind it is.
use Rattle.std.proofs.Common.{◌≡◌, sym, ap, ◌∙◌}
use Rattle.ring.specs.CommRing.{CommRing}
use Rattle.motion.specs.Vectors.{motion_scale, pairing}
use Rattle.spatial.specs.Placements.{outward, inward}
use Rattle.motion.specs.declared.vectors.Motion.{Motion}
use Rattle.motion.specs.declared.vectors.Force.{Force}
use Rattle.inertia.specs.Inertias.{applied, carried}
use Rattle.inertia.specs.declared.inertia.Inertia.{Inertia}
use Rattle.joint.specs.Joints.{axis}
use Rattle.pose.specs.Poses.{moves, own_pose, placed_so}
use Rattle.pose.specs.declared.pose.Own.{Own}

-- o is the own placement as the code has it, and p what it was found to be
module _ {V N : Type 0} (k : CommRing N) (v : V → N) {o p : Own V} (is : o ≡ p) where
  pub outward_is : (m r : Motion N) → r ≡ outward k (placed_so k (own_pose v p)) m → r ≡ outward k (placed_so k (own_pose v o)) m
  outward_is m r e = e ∙ ap (λ o. outward k (placed_so k (own_pose v o)) m) (sym is)

  pub inward_is : (w r : Force N) → r ≡ inward k (placed_so k (own_pose v p)) w → r ≡ inward k (placed_so k (own_pose v o)) w
  inward_is w r e = e ∙ ap (λ o. inward k (placed_so k (own_pose v o)) w) (sym is)

  pub carried_is : (a r : Inertia N) → r ≡ carried k (placed_so k (own_pose v p)) a → r ≡ carried k (placed_so k (own_pose v o)) a
  carried_is a r e = e ∙ ap (λ o. carried k (placed_so k (own_pose v o)) a) (sym is)

  pub along_is : (x : N) {r : Motion N} → r ≡ motion_scale k x (axis k (moves p)) → r ≡ motion_scale k x (axis k (moves o))
  along_is x e = e ∙ ap (λ o. motion_scale k x (axis k (moves o))) (sym is)

  pub component_is : (w : Force N) {r : N} → r ≡ pairing k (axis k (moves p)) w → r ≡ pairing k (axis k (moves o)) w
  component_is w e = e ∙ ap (λ o. pairing k (axis k (moves o)) w) (sym is)

  pub column_is : (a : Inertia N) {r : Force N} → r ≡ applied k a (axis k (moves p)) → r ≡ applied k a (axis k (moves o))
  column_is a e = e ∙ ap (λ o. applied k a (axis k (moves o))) (sym is)
