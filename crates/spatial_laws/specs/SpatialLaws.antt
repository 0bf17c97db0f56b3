-- The laws of motions, forces, placements and inertias over a ring.
use Rattle.std.specs.Prelude.{◌≡◌}
use Rattle.ring.specs.CommRing.{CommRing}
use Rattle.motion.specs.Vectors.{motion_add, motion_scale, force_add, force_scale, pairing, motion_cross, force_cross}
use Rattle.spatial.specs.Placements.{outward, inward}
use Rattle.spatial.specs.Links.{momentum}
use Rattle.motion.specs.declared.vectors.Motion.{Motion}
use Rattle.motion.specs.declared.vectors.Force.{Force}
use Rattle.spatial.specs.declared.placement.Placement.{Placement}
use Rattle.spatial.specs.declared.link.Link.{Link}
use Rattle.inertia.specs.Inertias.{of_link, applied, inertia_add, carried, inertia_minus_outer}
use Rattle.inertia.specs.declared.inertia.Inertia.{Inertia}

pub record SpatialLaws {N : Type 0} (k : CommRing N) : Type 0 where
  -- X and X' are adjoint under the pairing
  pub adjoint : (p : Placement N) (m : Motion N) (f : Force N) → pairing k (outward k p m) f ≡ pairing k m (inward k p f)
  -- X and X' are linear
  pub outward_add : (p : Placement N) (m n : Motion N) → outward k p (motion_add k m n) ≡ motion_add k (outward k p m) (outward k p n)
  pub outward_scale : (p : Placement N) (s : N) (m : Motion N) → outward k p (motion_scale k s m) ≡ motion_scale k s (outward k p m)
  pub inward_add : (p : Placement N) (f g : Force N) → inward k p (force_add k f g) ≡ force_add k (inward k p f) (inward k p g)
  pub inward_scale : (p : Placement N) (s : N) (f : Force N) → inward k p (force_scale k s f) ≡ force_scale k s (inward k p f)
  -- a link's inertia is linear and symmetric
  pub momentum_add : (l : Link N) (m n : Motion N) → momentum k l (motion_add k m n) ≡ force_add k (momentum k l m) (momentum k l n)
  pub momentum_scale : (l : Link N) (s : N) (m : Motion N) → momentum k l (motion_scale k s m) ≡ force_scale k s (momentum k l m)
  pub momentum_symmetric : (l : Link N) (m n : Motion N) → pairing k m (momentum k l n) ≡ pairing k n (momentum k l m)
  -- and is what its three blocks apply
  pub link_is_inertia : (l : Link N) (m : Motion N) → momentum k l m ≡ applied k (of_link k l) m
  -- every inertia is linear and symmetric
  pub applied_add : (a : Inertia N) (m n : Motion N) → applied k a (motion_add k m n) ≡ force_add k (applied k a m) (applied k a n)
  pub applied_scale : (a : Inertia N) (s : N) (m : Motion N) → applied k a (motion_scale k s m) ≡ force_scale k s (applied k a m)
  pub applied_symmetric : (a : Inertia N) (m n : Motion N) → pairing k m (applied k a n) ≡ pairing k n (applied k a m)
  -- sums, congruences and rank-one updates apply as they should: K + L, X' K X and K − d U Uᵀ
  pub sum_applied : (a b : Inertia N) (m : Motion N) → applied k (inertia_add k a b) m ≡ force_add k (applied k a m) (applied k b m)
  pub carried_applied : (p : Placement N) (a : Inertia N) (m : Motion N) → applied k (carried k p a) m ≡ inward k p (applied k a (outward k p m))
  pub minus_outer_applied : (a : Inertia N) (d : N) (u : Force N) (m : Motion N) → applied k (inertia_minus_outer k d u a) m ≡ force_add k (applied k a m) (force_scale k (k.mul d (k.neg (pairing k m u))) u)
  -- the two crosses are adjoint but for the sign, and the motion cross is a derivation
  pub cross_adjoint : (m n : Motion N) (f : Force N) → pairing k (motion_cross k m n) f ≡ k.neg (pairing k n (force_cross k m f))
  pub jacobi : (l m n : Motion N) → motion_cross k l (motion_cross k m n) ≡ motion_add k (motion_cross k (motion_cross k l m) n) (motion_cross k m (motion_cross k l n))
