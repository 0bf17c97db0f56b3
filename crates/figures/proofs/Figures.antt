-- The known figures, by computing.
use Rattle.std.proofs.Common.{◌≡◌, ℕ, true, List, [], ◌∷◌, is_some, Some, None, Option, sym, refl, ap, ◌∙◌, lit<}
use Rattle.std.specs.Option.{option_map}
use Rattle.ring.specs.CommRing.{CommRing, IsUnit}
use Rattle.ring.specs.Laws.{inverse_of, inverse_missing, zero_mul}
use Rattle.modular.specs.Below.{below_eq, one_part}
use Rattle.residue.specs.Residues.{modulus, modulus_big, residues}
use Rattle.word.specs.Words.{words}
use Rattle.dual.specs.DualNumbers.{dual, duals, dual_parts}
use Rattle.modular.proofs.Primes.{prime_unit}
use Rattle.motion.specs.Vectors.{motion_zero, unit_turn, unit_slide, motion_add, motion_scale, motion_cross, force_zero, force_add, force_scale, force_cross, pairing}
use Rattle.spatial.specs.Placements.{outward, inward, turned, turn_norm, slid}
use Rattle.spatial.specs.Links.{momentum}
use Rattle.rotation.specs.Rotations.{norm, rows}
use Rattle.tree_laws.specs.Tree.{put, frame, bump, inward as loop_inward, forces, torque, left, handed_op, bump_op, next_op, walk, next_k, mass, outward as loop_outward, handed, accel, next_bias, next_q, next_a, grow, aba}
use Rattle.pendulum.specs.NewtonEuler.{steps, newton_euler}
use Rattle.pendulum.specs.declared.Steps.{Steps}
use Rattle.figures.specs.Arm.{arm, skew}
use Rattle.figures.specs.Rigs.{torques_shown, masses_shown, accelerations_shown, none_at, all_of, swing, slides, crossed, small_tree}
use Rattle.figures.specs.Known.{Known, A, B, W, in_a, in_b, in_w}

-- zero is no unit
zero_none : {N : Type 0} (k : CommRing N) (x : N) → x ≡ k.zero → IsUnit k x → ⊥
zero_none k x e u =
    k.apart (sym (zero_mul k u.0) ∙ ap (λ y. k.mul y u.0) (sym e) ∙ u.1)

-- the parts of a torque, read off the steps that it was worked out in
pub torque_of :
    {S N : Type 0} (f : S → N) (parts : N → List ℕ) (o : Option (Steps S))
    → option_map (λ s. parts (f s.torque)) o ≡ option_map (λ s. parts s.torque) (option_map (steps f) o)
torque_of f parts None = refl
torque_of f parts (Some s) = refl

pub torque_figure :
    option_map (λ s. one_part s.torque) (newton_euler (residues 2147483647) (arm (residues 2147483647) (in_a 0) (in_a 5))) ≡ Some (26 ∷ [])
unfolding motion_zero unit_turn motion_add motion_scale motion_cross force_add force_cross pairing outward turned turn_norm momentum
torque_figure = refl

pub skew_figure :
    option_map (λ s. one_part s.torque) (newton_euler (residues 2147483647) (skew (residues 2147483647))) ≡ Some (41 ∷ [])
unfolding motion_zero unit_turn motion_add motion_scale motion_cross force_add force_cross pairing outward turned turn_norm momentum
skew_figure = refl

pub slope_figure :
    option_map (λ s. dual_parts one_part s.torque)
    (newton_euler (duals (residues 2147483647)) (arm (duals (residues 2147483647)) (dual (in_a 1) (in_a 1)) (dual (in_a 0) (in_a 0))))
    ≡ Some (6 ∷ 2147483627 ∷ [])
unfolding motion_zero unit_turn motion_add motion_scale motion_cross force_add force_cross pairing outward turned turn_norm momentum
slope_figure = refl

norm_zero : (t : ℕ) → (turn_norm (residues 65521) (in_b t)).at ≡ 0 → turn_norm (residues 65521) (in_b t) ≡ (residues 65521).zero
norm_zero t e = below_eq (turn_norm (residues 65521) (in_b t)) (residues 65521).zero e

fig_swing_torque : torques_shown A one_part (swing A (in_a 0) (in_a 5)) ≡ Some ((26 ∷ []) ∷ [])
unfolding motion_zero unit_turn unit_slide motion_add motion_scale motion_cross force_zero force_add force_scale force_cross pairing outward inward turned turn_norm slid momentum norm rows put bump loop_inward forces torque loop_outward
fig_swing_torque = refl

fig_swing_slope :
    torques_shown (duals A) (dual_parts one_part) (swing (duals A) (dual (in_a 1) (in_a 1)) (dual (in_a 0) (in_a 0)))
    ≡ Some ((6 ∷ 2147483627 ∷ []) ∷ [])
unfolding motion_zero unit_turn unit_slide motion_add motion_scale motion_cross force_zero force_add force_scale force_cross pairing outward inward turned turn_norm slid momentum norm rows put bump loop_inward forces torque loop_outward
fig_swing_slope = refl

fig_swing_w_one : swing W (in_w 1) (in_w 0) ≡ None
unfolding motion_zero unit_turn unit_slide motion_add motion_scale motion_cross force_zero force_add force_scale force_cross pairing outward inward turned turn_norm slid momentum norm rows put bump
fig_swing_w_one = refl

fig_swing_w_two : is_some (swing W (in_w 2) (in_w 0)) ≡ true
unfolding motion_zero unit_turn unit_slide motion_add motion_scale motion_cross force_zero force_add force_scale force_cross pairing outward inward turned turn_norm slid momentum norm rows put bump
fig_swing_w_two = refl

fig_swing_b_low : swing B (in_b 24297) (in_b 0) ≡ None
unfolding motion_zero unit_turn unit_slide motion_add motion_scale motion_cross force_zero force_add force_scale force_cross pairing outward inward turned turn_norm slid momentum norm rows put bump
fig_swing_b_low = refl

fig_swing_b_high : swing B (in_b 41224) (in_b 0) ≡ None
unfolding motion_zero unit_turn unit_slide motion_add motion_scale motion_cross force_zero force_add force_scale force_cross pairing outward inward turned turn_norm slid momentum norm rows put bump
fig_swing_b_high = refl

fig_swing_b_next : is_some (swing B (in_b 24298) (in_b 0)) ≡ true
unfolding motion_zero unit_turn unit_slide motion_add motion_scale motion_cross force_zero force_add force_scale force_cross pairing outward inward turned turn_norm slid momentum norm rows put bump
fig_swing_b_next = refl

fig_slides_a : masses_shown A one_part (slides A 2 3 11 9) ≡ Some ((5 ∷ []) ∷ (3 ∷ []) ∷ (3 ∷ []) ∷ (3 ∷ []) ∷ [])
unfolding motion_zero unit_turn unit_slide motion_add motion_scale motion_cross force_zero force_add force_scale force_cross pairing outward inward turned turn_norm slid momentum norm rows put bump frame bump_op walk next_k mass
fig_slides_a = refl

fig_slides_b : masses_shown B one_part (slides B 2 3 11 9) ≡ Some ((5 ∷ []) ∷ (3 ∷ []) ∷ (3 ∷ []) ∷ (3 ∷ []) ∷ [])
unfolding motion_zero unit_turn unit_slide motion_add motion_scale motion_cross force_zero force_add force_scale force_cross pairing outward inward turned turn_norm slid momentum norm rows put bump frame bump_op walk next_k mass
fig_slides_b = refl

fig_slides_w : masses_shown W one_part (slides W 2 3 11 9) ≡ Some ((5 ∷ []) ∷ (3 ∷ []) ∷ (3 ∷ []) ∷ (3 ∷ []) ∷ [])
unfolding motion_zero unit_turn unit_slide motion_add motion_scale motion_cross force_zero force_add force_scale force_cross pairing outward inward turned turn_norm slid momentum norm rows put bump frame bump_op walk next_k mass
fig_slides_w = refl

fig_slides_move : accelerations_shown A one_part (slides A 2 3 11 9) ≡ Some (all_of ((1 ∷ []) ∷ (2 ∷ []) ∷ []))
unfolding motion_zero unit_turn unit_slide motion_add motion_scale motion_cross force_zero force_add force_scale force_cross pairing outward inward turned turn_norm slid momentum norm rows put bump left handed_op bump_op next_op handed accel next_bias next_q next_a grow aba
fig_slides_move = refl

fig_slides_refused : accelerations_shown W one_part (slides W 2 3 11 9) ≡ Some (none_at 1)
unfolding motion_zero unit_turn unit_slide motion_add motion_scale motion_cross force_zero force_add force_scale force_cross pairing outward inward turned turn_norm slid momentum norm rows put bump left handed_op bump_op next_op handed accel next_bias next_q next_a grow aba
fig_slides_refused = refl

fig_slides_w_move : accelerations_shown W one_part (slides W 1 3 10 9) ≡ Some (all_of ((1 ∷ []) ∷ (2 ∷ []) ∷ []))
unfolding motion_zero unit_turn unit_slide motion_add motion_scale motion_cross force_zero force_add force_scale force_cross pairing outward inward turned turn_norm slid momentum norm rows put bump left handed_op bump_op next_op handed accel next_bias next_q next_a grow aba
fig_slides_w_move = refl

fig_crossed_matrix : masses_shown A one_part (crossed A) ≡ Some ((0 ∷ []) ∷ (1 ∷ []) ∷ (1 ∷ []) ∷ (0 ∷ []) ∷ [])
unfolding motion_zero unit_turn unit_slide motion_add motion_scale motion_cross force_zero force_add force_scale force_cross pairing outward inward turned turn_norm slid momentum norm rows put bump frame bump_op walk next_k mass
fig_crossed_matrix = refl

fig_crossed_refused : accelerations_shown A one_part (crossed A) ≡ Some (none_at 2)
unfolding motion_zero unit_turn unit_slide motion_add motion_scale motion_cross force_zero force_add force_scale force_cross pairing outward inward turned turn_norm slid momentum norm rows put bump left handed_op bump_op next_op handed accel next_bias next_q next_a grow aba
fig_crossed_refused = refl

fig_tree_torques :
    torques_shown A one_part (small_tree A (in_a 0) (in_a 0) (in_a 0))
    ≡ Some ((360777784 ∷ []) ∷ (381774558 ∷ []) ∷ (1185411277 ∷ []) ∷ [])
unfolding motion_zero unit_turn unit_slide motion_add motion_scale motion_cross force_zero force_add force_scale force_cross pairing outward inward turned turn_norm slid momentum norm rows put bump loop_inward forces torque loop_outward
fig_tree_torques = refl

fig_tree_matrix :
    masses_shown A one_part (small_tree A (in_a 0) (in_a 0) (in_a 0))
    ≡ Some
    ((1116691724 ∷ []) ∷ (715827876 ∷ []) ∷ (572662308 ∷ [])
    ∷ (715827876 ∷ []) ∷ (3 ∷ []) ∷ (0 ∷ [])
    ∷ (572662308 ∷ []) ∷ (0 ∷ []) ∷ (4 ∷ [])
    ∷ [])
unfolding motion_zero unit_turn unit_slide motion_add motion_scale motion_cross force_zero force_add force_scale force_cross pairing outward inward turned turn_norm slid momentum norm rows put bump frame bump_op walk next_k mass
fig_tree_matrix = refl

fig_tree_moves :
    accelerations_shown A one_part (small_tree A (in_a 360777784) (in_a 381774558) (in_a 1185411277))
    ≡ Some (all_of ((3 ∷ []) ∷ (4 ∷ []) ∷ (1 ∷ []) ∷ []))
unfolding motion_zero unit_turn unit_slide motion_add motion_scale motion_cross force_zero force_add force_scale force_cross pairing outward inward turned turn_norm slid momentum norm rows put bump left handed_op bump_op next_op handed accel next_bias next_q next_a grow aba
fig_tree_moves = refl

pub known : {N : Type 0} (k : CommRing N) → Known k
unfolding turn_norm
known k =
    record {
      inverse_of_three = inverse_of words (in_w 3) (in_w 2863311531) (below_eq (words.mul (in_w 3) (in_w 2863311531)) words.one refl);
      units_of_a =
          λ x ne.
          prime_unit (modulus 2147483647) 16 (modulus_big 2147483647) refl (lit< tt) x
          (λ h. ne (below_eq x (residues 2147483647).zero h));
      units_of_b =
          λ x ne.
          prime_unit (modulus 65521) 8 (modulus_big 65521) refl (lit< tt) x (λ h. ne (below_eq x (residues 65521).zero h));
      slope_alone =
          inverse_missing (duals k) (dual k.zero k.one) (λ n e. zero_none k k.zero refl (n.first, ap (λ x. x.first) e));
      no_placement_low = zero_none (residues 65521) (turn_norm (residues 65521) (in_b 24297)) (norm_zero 24297 refl);
      no_placement_high = zero_none (residues 65521) (turn_norm (residues 65521) (in_b 41224)) (norm_zero 41224 refl);
      placement = (
        in_b 29594,
        below_eq ((residues 65521).mul (turn_norm (residues 65521) (in_b 24298)) (in_b 29594)) (residues 65521).one refl,
      );
      torque = torque_figure;
      slope = slope_figure;
      skew_torque = skew_figure;
      swing_torque = fig_swing_torque;
      swing_slope = fig_swing_slope;
      swing_w_one = fig_swing_w_one;
      swing_w_two = fig_swing_w_two;
      swing_b_low = fig_swing_b_low;
      swing_b_high = fig_swing_b_high;
      swing_b_next = fig_swing_b_next;
      slides_a = fig_slides_a;
      slides_b = fig_slides_b;
      slides_w = fig_slides_w;
      slides_move = fig_slides_move;
      slides_refused = fig_slides_refused;
      slides_w_move = fig_slides_w_move;
      crossed_matrix = fig_crossed_matrix;
      crossed_refused = fig_crossed_refused;
      tree_torques = fig_tree_torques;
      tree_matrix = fig_tree_matrix;
      tree_moves = fig_tree_moves;
    }
