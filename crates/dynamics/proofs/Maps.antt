-- A ring map goes past the recursions.
use Rattle.std.proofs.Common.{◌≡◌, ℕ, zero, suc, Some, None, Option, refl, ap, ◌∙◌}
use mathlib.Core.Path.{fun_ext}
use Rattle.std.specs.Option.{option_map}
use Rattle.ring.specs.CommRing.{CommRing}
use Rattle.ring.specs.RingMap.{RingMap}
use Rattle.motion.specs.Vectors.{motion, force, motion_add, motion_scale, motion_cross, force_cross}
use Rattle.spatial.specs.Links.{link, momentum}
use Rattle.motion.specs.declared.vectors.Motion.{Motion}
use Rattle.motion.specs.declared.vectors.Force.{Force}
use Rattle.joint.specs.Joints.{joint, joint_outward}
use Rattle.spatial_laws.specs.SpatialMaps.{SpatialMap}
use Rattle.spatial_laws.proofs.Maps.{spatial_map}
use Rattle.tree_laws.specs.Tree.{Outcome as Ended, refused as ended_at, found as ended_with}
use Rattle.tree_laws.specs.Natural.{Map, Related}
use Rattle.tree_laws.specs.Theorems.{Twins, all_natural}
use Rattle.dynamics.specs.Held.{Held, held, par}
use Rattle.dynamics.specs.Modules.{motions, forces, power, tree}
use Rattle.dynamics.specs.Recursions.{refused, found, own_inertia, spin, velocity_within, velocity, drift, bias, base, articulated, outcome}
use Rattle.dynamics.specs.Laws.{DynamicsMap, outcome_map}
use Rattle.dynamics.proofs.Laws.{inverts}

module _ {N M : Type 0} (k : CommRing N) (l : CommRing M) (φ : N → M) (r : RingMap k l φ) where
  s : SpatialMap k l φ
  s = spatial_map k l φ r

  reflects : (x : N) (y : M) → l.mul (φ x) y ≡ l.one → (z : N) × (k.mul x z ≡ k.one)
  reflects x y e = go (k.inverse x) refl
    where
      go : (o : Option N) → k.inverse x ≡ o → (z : N) × (k.mul x z ≡ k.one)
      go None q = absurd (l.inverse_none (φ x) y (r.keeps_inverse x ∙ ap (option_map φ) q) e)
      go (Some z) q = (z, k.inverse_right x z q)

  module _ (h : Held N) where
    same_par : (i : ℕ) → par h i ≡ par (held φ h) i
    same_par zero = refl
    same_par (suc i) = refl

    spin_map : (i : ℕ) → motion φ (spin k h i) ≡ spin l (held φ h) i
    spin_map i = s.motion_scale_map (h.rate i) _ ∙ ap (motion_scale l (φ (h.rate i))) (s.axis_map (h.joints i).kind)

    velocity_map : (d i : ℕ) → motion φ (velocity_within k h d i) ≡ velocity_within l (held φ h) d i
    velocity_map d zero = s.motion_zero_map
    velocity_map zero (suc i) = s.motion_zero_map
    velocity_map (suc d) (suc i) =
        s.motion_add_map _ _
        ∙ ap (λ m. motion_add l m (motion φ (spin k h (suc i))))
        (s.outward_map (h.joints (suc i)) _ ∙ ap (joint_outward l (joint φ (h.joints (suc i)))) (velocity_map d (par h (suc i))))
        ∙ ap (motion_add l (joint_outward l (joint φ (h.joints (suc i))) (velocity_within l (held φ h) d (par (held φ h) (suc i))))) (spin_map (suc i))

    drift_map : (i : ℕ) → motion φ (drift k h i) ≡ drift l (held φ h) i
    drift_map i =
        s.motion_cross_map _ _
        ∙ ap (λ m. motion_cross l m (motion φ (spin k h i))) (velocity_map i i)
        ∙ ap (motion_cross l (velocity l (held φ h) i)) (spin_map i)

    bias_map : (i : ℕ) → force φ (bias k h i) ≡ bias l (held φ h) i
    bias_map i =
        s.force_cross_map _ _
        ∙ ap (λ m. force_cross l m (force φ (momentum k (h.links i) (velocity k h i)))) (velocity_map i i)
        ∙ ap (force_cross l (velocity l (held φ h) i))
        (s.momentum_map (h.links i) _ ∙ ap (momentum l (link φ (h.links i))) (velocity_map i i))

    base_map : (i : ℕ) → motion φ (base k h i) ≡ base l (held φ h) i
    base_map i =
        λ j.
        record {
          angular = record { x = r.keeps_zero j; y = r.keeps_zero j; z = r.keeps_zero j };
          linear =
              record {
                x = r.keeps_neg h.gravity.x j;
                y = r.keeps_neg h.gravity.y j;
                z = r.keeps_neg h.gravity.z j;
              };
        }

    abbrev trees :
        Map N (Motion N) (Force N) k (motions k) (forces k) (power k) (tree k h)
        M (Motion M) (Force M) l (motions l) (forces l) (power l) (tree l (held φ h))
    trees =
        record {
          φ = φ;
          μ = motion φ;
          ψ = force φ;
          φ_add = r.keeps_add;
          φ_mul = r.keeps_mul;
          φ_one = r.keeps_one;
          μ_plus = s.motion_add_map;
          μ_sc = s.motion_scale_map;
          ψ_plus = s.force_add_map;
          ψ_sc = s.force_scale_map;
          φ_pair = s.pairing_map;
          same_par = same_par;
          μ_X = λ i. s.outward_map (h.joints i);
          ψ_X' = λ i. s.inward_map (h.joints i);
          μ_S = λ i. s.axis_map (h.joints i).kind;
          reflects = reflects;
        }

    abbrev twins :
        Twins N (Motion N) (Force N) M (Motion M) (Force M) k (motions k) (forces k) (power k) (tree k h) l (motions l) (forces l) (power l) (tree l (held φ h)) trees
        (own_inertia k h) (own_inertia l (held φ h)) (drift k h) (base k h) (drift l (held φ h)) (base l (held φ h)) (bias k h) (bias l (held φ h))
    twins = record { e_a = λ i. s.momentum_map (h.links i); ec = drift_map; e0 = base_map; eβ = bias_map }

    same_end :
        (o : Ended k (motions k) (forces k) (power k) (tree k h)) (o' : Ended l (motions l) (forces l) (power l) (tree l (held φ h)))
        → Related k (motions k) (forces k) (power k) (tree k h) l (motions l) (forces l) (power l) (tree l (held φ h)) trees
        (drift k h) (drift l (held φ h)) drift_map (base k h) (base l (held φ h)) base_map o o'
        → outcome_map φ (outcome k h o) ≡ outcome l (held φ h) o'
    same_end (ended_at i) (ended_at i') e = ap refused e
    same_end (ended_at i) (ended_with q a) e = absurd e
    same_end (ended_with q a) (ended_at i) e = absurd e
    same_end (ended_with q a) (ended_with q' a') e = ap found (fun_ext e.0)

  pub dynamics_map : DynamicsMap k l φ
  dynamics_map =
      record {
        torques_map = λ h. (all_natural N (Motion N) (Force N) M (Motion M) (Force M) k (motions k) (forces k) (power k) (tree k h) l (motions l) (forces l) (power l) (tree l (held φ h)) (trees h)
            _ _ _ _ _ _ _ _ (twins h) h.n).0 h.acceleration (λ i. φ (h.acceleration i)) (λ i. refl);
        masses_map = λ h. (all_natural N (Motion N) (Force N) M (Motion M) (Force M) k (motions k) (forces k) (power k) (tree k h) l (motions l) (forces l) (power l) (tree l (held φ h)) (trees h)
            _ _ _ _ _ _ _ _ (twins h) h.n).1;
        accelerations_map =
            λ h.
            same_end h (articulated k h) (articulated l (held φ h))
            ((all_natural N (Motion N) (Force N) M (Motion M) (Force M) k (motions k) (forces k) (power k) (tree k h) l (motions l) (forces l) (power l) (tree l (held φ h)) (trees h)
            _ _ _ _ _ _ _ _ (twins h) h.n).2 k.inverse (inverts k h) l.inverse (inverts l (held φ h)) h.force (λ i. φ (h.force i)) (λ i. refl));
      }
