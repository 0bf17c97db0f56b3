-- The laws of the recursions, from those of trees of adjoint maps.
use Rattle.std.proofs.Common.{◌≡◌, ℕ, zero, suc, ◌<◌, ◌≤◌, Some, sym, refl, ap, ◌∙◌, ap₂, arith}
use native.Mathlib.Decide.{dec_lt}
use Rattle.ring.specs.CommRing.{CommRing}
use Rattle.motion.specs.declared.vectors.Motion.{Motion}
use Rattle.motion.specs.declared.vectors.Force.{Force}
use Rattle.spatial_laws.proofs.Laws.{momentum_add, momentum_scale, momentum_symmetric}
use Rattle.tree_laws.specs.Tree.{left, Reaches, Inertia, Inverts, aba_right, torque, massive, mass_symmetric, mass_off, outward, outward_moves, Moves, Right, fails_bound, onto}
use Rattle.tree_laws.specs.Tree.{Outcome as Ended, refused as ended_at, found as ended_with}
use Rattle.tree_laws.specs.Theorems.{refusal_is_right}
use Rattle.tree_laws.specs.Found.{Good, found_units}
use Rattle.dynamics.specs.Held.{Held, moving, par}
use Rattle.dynamics.specs.Modules.{motions, forces, power, tree}
use Rattle.dynamics.specs.Recursions.{Outcome, refused, found, S, own_inertia, spin, velocity_within, velocity, drift, bias, base, accelerated, torques, masses, articulated, outcome, accelerations}
use Rattle.tree_laws.specs.Tree.{forces as forces_at}
use Rattle.tree_laws.specs.Words.{inward_balances, balances_once, composite_children, composite_once, mass_climbs, walk_is_climb}
use Rattle.tree_laws.specs.Articulated.{Halts, Explained, aba_explained}
use Rattle.motion.specs.Vectors.{motion_add, motion_scale, motion_cross, force_add, force_cross, pairing}
use Rattle.joint.specs.Joints.{joint_outward}
use Rattle.dynamics.specs.Tables.{from_parent, from_children, climbed, NewtonEuler, CompositeBodies, ArticulatedBodies, RefusedBody}
use Rattle.dynamics.proofs.Once.{accelerations_once, not_both, not_lower}
use Rattle.dynamics.specs.Laws.{own_force, joint_force, composites, Articulated, Finds, Gives, unit_torque, Highest, Settles, DynamicsLaws}

module _ {N : Type 0} (k : CommRing N) where
  -- a link's inertia is linear and symmetric
  inertial : (h : Held N) (i : ℕ) → Inertia k (motions k) (forces k) (power k) (tree k h) (own_inertia k h i)
  inertial h i =
      record {
        lin_plus = momentum_add k (h.links i);
        lin_sc = momentum_scale k (h.links i);
        symm = momentum_symmetric k (h.links i);
      }

  pub inverts : (h : Held N) → Inverts k (motions k) (forces k) (power k) (tree k h) k.inverse
  inverts h = record { sound = k.inverse_right; complete = λ x e y. k.inverse_none x y e }

  abbrev Moving : (h : Held N) → (ℕ → N) → (ℕ → Motion N) → Type 0
  Moving h q a = Moves k (motions k) (forces k) (power k) (tree k h) (drift k h) 0 (base k h) h.n q a

  moves : (h : Held N) (q : ℕ → N) → Moving h q (outward k (motions k) (forces k) (power k) (tree k h) (drift k h) (base k h) q h.n)
  moves h q = outward_moves k (motions k) (forces k) (power k) (tree k h) (drift k h) (base k h) q h.n

  -- motions by the accelerations q have the torques of q
  meets :
      (h : Held N) (q : ℕ → N) (a : ℕ → Motion N) → Moving h q a → (i : ℕ) → i < h.n
      → torques k (moving h q) (suc i)
      ≡ torque k (motions k) (forces k) (power k) (tree k h) h.n (own_inertia k h) (bias k h) a (suc i)
  meets h q a g i l =
      massive k (motions k) (forces k) (power k) (tree k h) (drift k h) (base k h) h.n q _ _ (moves h q) z (own_inertia k h) (inertial h) (bias k h) i l
      ∙ sym (massive k (motions k) (forces k) (power k) (tree k h) (drift k h) (base k h) h.n q _ _ g z (own_inertia k h) (inertial h) (bias k h) i l)
    where
      z : Moving h (λ _. k.zero) (outward k (motions k) (forces k) (power k) (tree k h) (drift k h) (base k h) (λ _. k.zero) h.n)
      z = moves h (λ _. k.zero)

  abbrev Reached : Held N → ℕ → (ℕ → N) → Type 0
  Reached h = Reaches k (motions k) (forces k) (power k) (tree k h) h.n (own_inertia k h)

  given : (h : Held N) (j : ℕ) (y : ℕ → N) → Reached h j y → Gives k h j y
  given h j y r = record { by = r.by; off = r.off; gives = r.gives }

  reached : (h : Held N) (j : ℕ) (y : ℕ → N) → Gives k h j y → Reached h j y
  reached h j y g = record { by = g.by; off = g.off; gives = g.gives }

  settle : (h : Held N) → Settles k h (accelerations k h)
  settle h =
      go (articulated k h) refl
      (aba_right k (motions k) (forces k) (power k) (tree k h) (drift k h) (base k h) k.inverse (inverts h) h.n (own_inertia k h) (inertial h) (bias k h) h.force)
    where
      go :
          (o : Ended k (motions k) (forces k) (power k) (tree k h)) → articulated k h ≡ o
          → Right k (motions k) (forces k) (power k) (tree k h) (drift k h) (base k h) h.n (own_inertia k h) (bias k h) h.force o
          → Settles k h (outcome k h o)
      go (ended_at j) e r =
          let b = fails_bound k (motions k) (forces k) (power k) (tree k h) h.n (own_inertia k h) j r in
          let x = refusal_is_right N (Motion N) (Force N) k (motions k) (forces k) (power k) (tree k h) k.inverse (inverts h) h.n (own_inertia k h) (inertial h) (drift k h) (base k h) (bias k h) h.force j e in
          let f = λ (g : Gives k h j (unit_torque k h j)). x.0 (reached h j (unit_torque k h j) g) in (
            record { low = b.0; high = b.1; here = (unit_torque k h j, f); above = λ i a l y. given h i y (x.1 i a l y) },
            f,
          )
      go (ended_with q a) e r = (
        (λ i l. meets h q a r.answers.moves i l ∙ r.answers.meet i (omega arith) l),
        (λ q' g i l. (r.only q' _ (record { moves = moves h q'; meet = λ i _ l. g i l })).on_q i (omega arith) l),
      )

  highest : (h : Held N) (j : ℕ) → Highest k h j → accelerations k h ≡ refused j
  highest h zero w = absurd (let l = w.low in omega arith)
  highest h (suc j) w =
      go (articulated k h) (settle h)
      (λ g.
      w.here.1
      (given h (suc j) w.here.0
      (onto k (motions k) (forces k) (power k) (tree k h) h.n (own_inertia k h) (inertial h) j
      (found_units k (motions k) (forces k) (power k) (tree k h) (drift k h) (base k h) k.inverse (inverts h) h.force h.n (own_inertia k h) (bias k h) g j)
      w.high w.here.0)))
    where
      go :
          (o : Ended k (motions k) (forces k) (power k) (tree k h)) → Settles k h (outcome k h o)
          → (Good k (motions k) (forces k) (power k) (tree k h) (drift k h) (base k h) k.inverse (inverts h) h.force o → ⊥)
          → outcome k h o ≡ refused (suc j)
      go (ended_with q a) t f = absurd (f tt)
      go (ended_at i) t f =
          ap refused
          (elim (dec_lt i (suc j)) [
            | yes l ↦ absurd (w.here.1 (t.0.above (suc j) l w.high w.here.0))
            | no g ↦
                elim (dec_lt (suc j) i) [
                  | yes l ↦ absurd (t.1 (w.above i l t.0.high (unit_torque k h i)))
                  | no g' ↦ omega arith
                ]
          ])

  -- the bound on the depth does not matter
  deeper : (h : Held N) (d e i : ℕ) → i ≤ d → i ≤ e → velocity_within k h d i ≡ velocity_within k h e i
  deeper h d e zero l m = refl
  deeper h zero e (suc i) l m = absurd (omega arith)
  deeper h (suc d) zero (suc i) l m = absurd (omega arith)
  deeper h (suc d) (suc e) (suc i) l m =
      ap (λ v. motion_add k (joint_outward k (h.joints (suc i)) v) (spin k h (suc i)))
      (deeper h d e (par h (suc i)) (omega arith) (omega arith))

  stepped : (h : Held N) (i : ℕ) → velocity k h (suc i) ≡ motion_add k (from_parent k h (velocity k h) (suc i)) (spin k h (suc i))
  stepped h i =
      ap (λ v. motion_add k (joint_outward k (h.joints (suc i)) v) (spin k h (suc i)))
      (deeper h i (par h (suc i)) (par h (suc i)) (omega arith) (omega arith))

  -- two tables that start alike and step alike are alike
  alike :
      {V : Type 0} (h : Held N) (step : ℕ → V → V) (v w : ℕ → V) → v 0 ≡ w 0
      → ((i : ℕ) → i < h.n → v (suc i) ≡ step (suc i) (v (par h (suc i))))
      → ((i : ℕ) → i < h.n → w (suc i) ≡ step (suc i) (w (par h (suc i))))
      → (i : ℕ) → i ≤ h.n → v i ≡ w i
  alike {V} h step v w e f g i l = up i i (omega arith) l
    where
      up : (d i : ℕ) → i ≤ d → i ≤ h.n → v i ≡ w i
      up d zero m l = e
      up zero (suc i) m l = absurd (omega arith)
      up (suc d) (suc i) m l = f i l ∙ ap (step (suc i)) (up d (par h (suc i)) (omega arith) (omega arith)) ∙ sym (g i l)

  newton_euler : (h : Held N) → NewtonEuler k h (velocity k h) (accelerated k h) (joint_force k h) (torques k h)
  unfolding torque forces_at
  newton_euler h =
      record {
        velocity_base = refl;
        velocity = λ i l. stepped h i;
        acceleration_base = (moves h h.acceleration).base 0 (omega arith);
        acceleration = λ i l. (moves h h.acceleration).step i (omega arith) l;
        force = inward_balances k (motions k) (forces k) (power k) (tree k h) h.n (own_force k h);
        torque = λ i l. refl;
      }

  newton_euler_only :
      (h : Held N) (v a : ℕ → Motion N) (f : ℕ → Force N) (τ : ℕ → N) → NewtonEuler k h v a f τ
      → (i : ℕ) → i < h.n → τ (suc i) ≡ torques k h (suc i)
  newton_euler_only h v a f τ t i l =
      t.torque i l ∙ ap (pairing k (S k h (suc i))) (f_same i l) ∙ sym ((newton_euler h).torque i l)
    where
      v_same : (i : ℕ) → i ≤ h.n → v i ≡ velocity k h i
      v_same =
          alike h (λ i m. motion_add k (joint_outward k (h.joints i) m) (spin k h i)) v (velocity k h)
          t.velocity_base t.velocity (λ i l. stepped h i)

      a_same : (i : ℕ) → i ≤ h.n → a i ≡ accelerated k h i
      a_same =
          alike h
          (λ i m. motion_add k (motion_add k (joint_outward k (h.joints i) m) (drift k h i)) (motion_scale k (h.acceleration i) (S k h i)))
          a (accelerated k h)
          (t.acceleration_base ∙ sym (newton_euler h).acceleration_base)
          (λ i l.
          t.acceleration i l
          ∙ ap (λ w. motion_add k (motion_add k (from_parent k h a (suc i)) (motion_cross k w (spin k h (suc i)))) (motion_scale k (h.acceleration (suc i)) (S k h (suc i))))
          (v_same (suc i) l))
          (newton_euler h).acceleration

      f_same : (i : ℕ) → i < h.n → f (suc i) ≡ joint_force k h (suc i)
      f_same =
          balances_once k (motions k) (forces k) (power k) (tree k h) h.n (own_force k h) f (joint_force k h)
          (λ i l.
          t.force i l
          ∙ ap₂ (λ x w. force_add k (force_add k (own_inertia k h (suc i) x) (force_cross k w (own_inertia k h (suc i) w))) (from_children k h (suc i) f))
          (a_same (suc i) l) (v_same (suc i) l))
          (inward_balances k (motions k) (forces k) (power k) (tree k h) h.n (own_force k h))

  composite_bodies : (h : Held N) → CompositeBodies k h (composites k h) (masses k h)
  composite_bodies h =
      record {
        composite = λ i l m. composite_children k (motions k) (forces k) (power k) (tree k h) h.n (own_inertia k h) (suc i) m;
        row =
            λ i j l m.
            mass_climbs k (motions k) (forces k) (power k) (tree k h) h.n (own_inertia k h) i j l m
            ∙ walk_is_climb k (motions k) (forces k) (power k) (tree k h) (suc i) (suc i) _ (suc j) (omega arith);
        mirror = λ i j l m. mass_symmetric k (motions k) (forces k) (power k) (tree k h) h.n (own_inertia k h) (suc j) (suc i);
      }

  composite_bodies_only :
      (h : Held N) (K : ℕ → Motion N → Force N) (H : ℕ → ℕ → N) → CompositeBodies k h K H
      → (i j : ℕ) → i < h.n → j < h.n → H (suc i) (suc j) ≡ masses k h (suc i) (suc j)
  composite_bodies_only h K H t i j l m =
      elim (dec_lt i j) [
        | no g ↦ low i j l (omega arith)
        | yes b ↦ t.mirror j i m (omega arith) ∙ low j i m (omega arith) ∙ sym ((composite_bodies h).mirror j i m (omega arith))
      ]
    where
      K_same : (i : ℕ) → i < h.n → (m : Motion N) → K (suc i) m ≡ composites k h (suc i) m
      K_same =
          composite_once k (motions k) (forces k) (power k) (tree k h) h.n (own_inertia k h) K (composites k h)
          t.composite (composite_bodies h).composite

      low : (i j : ℕ) → i < h.n → j ≤ i → H (suc i) (suc j) ≡ masses k h (suc i) (suc j)
      low i j l b =
          t.row i j l b
          ∙ ap (λ F. climbed k h (suc i) F (suc j)) (K_same i l (S k h (suc i)))
          ∙ sym ((composite_bodies h).row i j l b)

  articulated_bodies : (h : Held N) → Articulated k h (accelerations k h)
  unfolding left
  articulated_bodies h =
      go (articulated k h) (settle h)
      (aba_explained k (motions k) (forces k) (power k) (tree k h) (drift k h) (base k h) k.inverse h.force h.n (own_inertia k h) (bias k h))
    where
      pivots :
          (j : ℕ) (A : ℕ → Motion N → Force N) (d : ℕ → N)
          → Halts k (motions k) (forces k) (power k) (tree k h) (drift k h) (base k h) k.inverse h.force h.n (own_inertia k h) A d j
          → (i : ℕ) → j < i → i ≤ h.n → k.inverse (pairing k (S k h i) (A i (S k h i))) ≡ Some (d i)
      pivots j A d x zero a l = absurd (omega arith)
      pivots j A d x (suc i) a l = x.pivots i (omega arith) l

      go :
          (o : Ended k (motions k) (forces k) (power k) (tree k h)) → Settles k h (outcome k h o)
          → Explained k (motions k) (forces k) (power k) (tree k h) (drift k h) (base k h) k.inverse h.force h.n (own_inertia k h) (bias k h) o
          → Articulated k h (outcome k h o)
      go (ended_at j) w (A, d, x) = (
        A,
        d,
        record {
          low = w.0.low;
          high = w.0.high;
          inertia = λ i l _ m. x.inertia i m l;
          pivot = λ i. pivots j A d x i;
          no_unit = x.none;
        },
      )
      go (ended_with q a) w (A, b, d, x, y) = (
        A,
        b,
        d,
        a,
        record {
          inertia = λ i l m. x.inertia (suc i) m;
          bias_force = λ i l. x.bias (suc i);
          pivot = x.pivots;
          acceleration_base = y.base;
          joint = y.joint;
          acceleration = y.motion;
        },
      )

  found_only :
      (h : Held N) (A : ℕ → Motion N → Force N) (b : ℕ → Force N) (d q : ℕ → N) (a : ℕ → Motion N)
      → ArticulatedBodies k h A b d q a → Finds k h q (accelerations k h)
  found_only h A b d q a t = go (accelerations k h) (articulated_bodies h)
    where
      go : (o : Outcome N) → Articulated k h o → Finds k h q o
      go (refused j) (B, e, r) = not_both k h A B b d e q a j t r
      go (found p) (B, c, e, w, s) = accelerations_once k h A B b c d e q p a w t s

  refused_once : (h : Held N) (A : ℕ → Motion N → Force N) (d : ℕ → N) (j : ℕ) → RefusedBody k h A d j → accelerations k h ≡ refused j
  refused_once h A d j r = go (accelerations k h) (articulated_bodies h)
    where
      go : (o : Outcome N) → Articulated k h o → o ≡ refused j
      go (found p) (B, c, e, w, s) = absurd (not_both k h B A c e d p w j s r)
      go (refused i) (B, e, s) =
          ap refused
          (elim (dec_lt i j) [
            | yes l ↦ absurd (not_lower k h B A e d i j l s r)
            | no g ↦
                elim (dec_lt j i) [
                  | yes l ↦ absurd (not_lower k h A B d e j i l r s)
                  | no g' ↦ omega arith
                ]
          ])

  pub dynamics_laws : DynamicsLaws k
  dynamics_laws =
      record {
        torques_tables = newton_euler;
        torques_only = newton_euler_only;
        masses_tables = composite_bodies;
        masses_only = composite_bodies_only;
        accelerations_tables = articulated_bodies;
        accelerations_only = found_only;
        refused_only = refused_once;
        torques_split =
            λ h.
            massive k (motions k) (forces k) (power k) (tree k h) (drift k h) (base k h) h.n h.acceleration _ _
            (moves h h.acceleration) (moves h (λ _. k.zero)) (own_inertia k h) (inertial h) (bias k h);
        masses_mirror = λ h. mass_symmetric k (motions k) (forces k) (power k) (tree k h) h.n (own_inertia k h);
        masses_apart = λ h. mass_off k (motions k) (forces k) (power k) (tree k h) h.n (own_inertia k h);
        accelerations_settle = settle;
        highest_refused = highest;
      }
