-- The figures that are known beforehand, in one list.
use Rattle.std.specs.Prelude.{◌≡◌, ℕ, ◌^◌, true, [], ◌∷◌, is_some, Some, None, ◌≢◌}
use Rattle.std.specs.Option.{option_map}
use Rattle.ring.specs.CommRing.{CommRing, IsUnit}
use Rattle.modular.specs.Below.{Below, residue, one_part}
use Rattle.residue.specs.Residues.{modulus, modulus_big, residues}
use Rattle.word.specs.Words.{words, words_big}
use Rattle.dual.specs.DualNumbers.{dual, duals, dual_parts}
use Rattle.spatial.specs.Placements.{turn_norm}
use Rattle.pendulum.specs.NewtonEuler.{newton_euler}
use Rattle.figures.specs.Rigs.{torques_shown, masses_shown, accelerations_shown, none_at, all_of, swing, slides, crossed, small_tree}
use Rattle.figures.specs.Arm.{arm, skew}

-- the number n in A, modulo 2147483647, in B, modulo 65521, and in W, modulo 2 ^ 32
abbrev pub in_a : ℕ → Below (modulus 2147483647)
in_a = residue (modulus 2147483647) (modulus_big 2147483647)

abbrev pub in_b : ℕ → Below (modulus 65521)
in_b = residue (modulus 65521) (modulus_big 65521)

abbrev pub in_w : ℕ → Below (2 ^ 32)
in_w = residue (2 ^ 32) words_big

-- the rings A, B and W
abbrev pub A : CommRing (Below (modulus 2147483647))
A = residues 2147483647

abbrev pub B : CommRing (Below (modulus 65521))
B = residues 65521

abbrev pub W : CommRing (Below (2 ^ 32))
W = words

pub record Known {N : Type 0} (k : CommRing N) : Type 0 where
  -- in W the inverse of 3 is 2863311531
  pub inverse_of_three : words.inverse (in_w 3) ≡ Some (in_w 2863311531)
  -- in A and in B every number but zero is a unit
  pub units_of_a :
      (x : Below (modulus 2147483647)) → (x ≢ (residues 2147483647).zero) → IsUnit (residues 2147483647) x
  pub units_of_b : (x : Below (modulus 65521)) → (x ≢ (residues 65521).zero) → IsUnit (residues 65521) x
  -- over every ring the dual number 0 + 1 e has no inverse
  pub slope_alone : (duals k).inverse (dual k.zero k.one) ≡ None
  -- in B, 1 + t t is no unit for two positions, and is one for a neighbour
  pub no_placement_low : IsUnit (residues 65521) (turn_norm (residues 65521) (in_b 24297)) → ⊥
  pub no_placement_high : IsUnit (residues 65521) (turn_norm (residues 65521) (in_b 41224)) → ⊥
  pub placement : IsUnit (residues 65521) (turn_norm (residues 65521) (in_b 24298))
  -- in A the arm at t = 0 and rate 5 has the torque 26
  pub torque :
      option_map (λ s. one_part s.torque) (newton_euler (residues 2147483647) (arm (residues 2147483647) (in_a 0) (in_a 5)))
      ≡ Some (26 ∷ [])
  -- over A's dual numbers the arm at t = 1 + e and rate 0 has the torque 6 with the slope −20
  pub slope :
      option_map (λ s. dual_parts one_part s.torque)
      (newton_euler (duals (residues 2147483647)) (arm (duals (residues 2147483647)) (dual (in_a 1) (in_a 1)) (dual (in_a 0) (in_a 0))))
      ≡ Some (6 ∷ 2147483627 ∷ [])
  -- in A the skew arm has the torque 41
  pub skew_torque :
      option_map (λ s. one_part s.torque) (newton_euler (residues 2147483647) (skew (residues 2147483647))) ≡ Some (41 ∷ [])
  -- the swing in A: torque 26 at t = 0 and rate 5, and over dual numbers 6 and 2147483627 at t = 1 + e
  pub swing_torque : torques_shown A one_part (swing A (in_a 0) (in_a 5)) ≡ Some ((26 ∷ []) ∷ [])
  pub swing_slope :
      torques_shown (duals A) (dual_parts one_part) (swing (duals A) (dual (in_a 1) (in_a 1)) (dual (in_a 0) (in_a 0)))
      ≡ Some ((6 ∷ 2147483627 ∷ []) ∷ [])
  -- positions that are none, and their neighbours that are
  pub swing_w_one : swing W (in_w 1) (in_w 0) ≡ None
  pub swing_w_two : is_some (swing W (in_w 2) (in_w 0)) ≡ true
  pub swing_b_low : swing B (in_b 24297) (in_b 0) ≡ None
  pub swing_b_high : swing B (in_b 41224) (in_b 0) ≡ None
  pub swing_b_next : is_some (swing B (in_b 24298) (in_b 0)) ≡ true
  -- the slides with masses 2 and 3: the matrix in each ring, and the accelerations that forces 11 and 9 give in A
  pub slides_a : masses_shown A one_part (slides A 2 3 11 9) ≡ Some ((5 ∷ []) ∷ (3 ∷ []) ∷ (3 ∷ []) ∷ (3 ∷ []) ∷ [])
  pub slides_b : masses_shown B one_part (slides B 2 3 11 9) ≡ Some ((5 ∷ []) ∷ (3 ∷ []) ∷ (3 ∷ []) ∷ (3 ∷ []) ∷ [])
  pub slides_w : masses_shown W one_part (slides W 2 3 11 9) ≡ Some ((5 ∷ []) ∷ (3 ∷ []) ∷ (3 ∷ []) ∷ (3 ∷ []) ∷ [])
  pub slides_move : accelerations_shown A one_part (slides A 2 3 11 9) ≡ Some (all_of ((1 ∷ []) ∷ (2 ∷ []) ∷ []))
  -- in W joint 1 is refused, since its pivot is 2; with masses 1 and 3 and forces 10 and 9 nothing is
  pub slides_refused : accelerations_shown W one_part (slides W 2 3 11 9) ≡ Some (none_at 1)
  pub slides_w_move : accelerations_shown W one_part (slides W 1 3 10 9) ≡ Some (all_of ((1 ∷ []) ∷ (2 ∷ []) ∷ []))
  -- crossed: the matrix has an inverse, and joint 2 is refused all the same
  pub crossed_matrix : masses_shown A one_part (crossed A) ≡ Some ((0 ∷ []) ∷ (1 ∷ []) ∷ (1 ∷ []) ∷ (0 ∷ []) ∷ [])
  pub crossed_refused : accelerations_shown A one_part (crossed A) ≡ Some (none_at 2)
  -- the small tree: torques, matrix, and the accelerations 3, 4, 1 back from those torques
  pub tree_torques :
      torques_shown A one_part (small_tree A (in_a 0) (in_a 0) (in_a 0))
      ≡ Some ((360777784 ∷ []) ∷ (381774558 ∷ []) ∷ (1185411277 ∷ []) ∷ [])
  pub tree_matrix :
      masses_shown A one_part (small_tree A (in_a 0) (in_a 0) (in_a 0))
      ≡ Some
      ((1116691724 ∷ []) ∷ (715827876 ∷ []) ∷ (572662308 ∷ [])
      ∷ (715827876 ∷ []) ∷ (3 ∷ []) ∷ (0 ∷ [])
      ∷ (572662308 ∷ []) ∷ (0 ∷ []) ∷ (4 ∷ [])
      ∷ [])
  pub tree_moves :
      accelerations_shown A one_part (small_tree A (in_a 360777784) (in_a 381774558) (in_a 1185411277))
      ≡ Some (all_of ((3 ∷ []) ∷ (4 ∷ []) ∷ (1 ∷ []) ∷ []))
