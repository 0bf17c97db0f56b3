-- Motions and forces are modules over the ring, and the pairing is bilinear.
use Rattle.std.proofs.Common.{◌≡◌, List, [], ◌∷◌, ◌++◌, refl}
use Rattle.ring.specs.CommRing.{CommRing}
use Rattle.ring.proofs.Solve.{Term, var, unit, nil}
use Rattle.motion.specs.Vectors.{motion_zero, motion_zero_by, motion_add, motion_add_by, motion_scale, motion_scale_by, force_zero, force_zero_by, force_add, force_add_by, force_scale, force_scale_by, pairing, pairing_by}
use Rattle.motion.specs.declared.vectors.Motion.{Motion}
use Rattle.motion.specs.declared.vectors.Force.{Force}
use Rattle.spatial.proofs.Quote.{terms, motion_vars, force_vars, motion_list, force_list, solve_number, solve_motion, solve_force}

module _ {N : Type 0} (k : CommRing N) where
  module _ (x y z : Motion N) (r s : N) where
    abbrev all : List N
    all = motion_list x ++ (motion_list y ++ (motion_list z ++ (r ∷ s ∷ [])))

    abbrev X : Motion Term
    X = motion_vars 0

    abbrev Y : Motion Term
    Y = motion_vars 6

    abbrev Z : Motion Term
    Z = motion_vars 12

    abbrev p : Motion Term → Motion Term → Motion Term
    p = motion_add_by terms

    abbrev t : Term → Motion Term → Motion Term
    t = motion_scale_by terms

    pub m_assoc : motion_add k (motion_add k x y) z ≡ motion_add k x (motion_add k y z)
    unfolding motion_add
    m_assoc = solve_motion k all (p (p X Y) Z) (p X (p Y Z)) refl

    pub m_comm : motion_add k x y ≡ motion_add k y x
    unfolding motion_add
    m_comm = solve_motion k all (p X Y) (p Y X) refl

    pub m_zer : motion_add k x (motion_zero k) ≡ x
    unfolding motion_zero motion_add
    m_zer = solve_motion k all (p X (motion_zero_by terms)) X refl

    pub m_sc_plus : motion_scale k r (motion_add k x y) ≡ motion_add k (motion_scale k r x) (motion_scale k r y)
    unfolding motion_add motion_scale
    m_sc_plus = solve_motion k all (t (var 18) (p X Y)) (p (t (var 18) X) (t (var 18) Y)) refl

    pub m_add_sc : motion_scale k (k.add r s) x ≡ motion_add k (motion_scale k r x) (motion_scale k s x)
    unfolding motion_add motion_scale
    m_add_sc = solve_motion k all (t (terms.add (var 18) (var 19)) X) (p (t (var 18) X) (t (var 19) X)) refl

    pub m_mul_sc : motion_scale k (k.mul r s) x ≡ motion_scale k r (motion_scale k s x)
    unfolding motion_scale
    m_mul_sc = solve_motion k all (t (terms.mul (var 18) (var 19)) X) (t (var 18) (t (var 19) X)) refl

    pub m_one_sc : motion_scale k k.one x ≡ x
    unfolding motion_scale
    m_one_sc = solve_motion k all (t unit X) X refl

    pub m_nil_sc : motion_scale k k.zero x ≡ motion_zero k
    unfolding motion_zero motion_scale
    m_nil_sc = solve_motion k all (t nil X) (motion_zero_by terms) refl

    pub m_sc_zer : motion_scale k r (motion_zero k) ≡ motion_zero k
    unfolding motion_zero motion_scale
    m_sc_zer = solve_motion k all (t (var 18) (motion_zero_by terms)) (motion_zero_by terms) refl

  module _ (x y z : Force N) (r s : N) where
    abbrev all_f : List N
    all_f = force_list x ++ (force_list y ++ (force_list z ++ (r ∷ s ∷ [])))

    abbrev XF : Force Term
    XF = force_vars 0

    abbrev YF : Force Term
    YF = force_vars 6

    abbrev ZF : Force Term
    ZF = force_vars 12

    abbrev p_f : Force Term → Force Term → Force Term
    p_f = force_add_by terms

    abbrev t_f : Term → Force Term → Force Term
    t_f = force_scale_by terms

    pub f_assoc : force_add k (force_add k x y) z ≡ force_add k x (force_add k y z)
    unfolding force_add
    f_assoc = solve_force k all_f (p_f (p_f XF YF) ZF) (p_f XF (p_f YF ZF)) refl

    pub f_comm : force_add k x y ≡ force_add k y x
    unfolding force_add
    f_comm = solve_force k all_f (p_f XF YF) (p_f YF XF) refl

    pub f_zer : force_add k x (force_zero k) ≡ x
    unfolding force_zero force_add
    f_zer = solve_force k all_f (p_f XF (force_zero_by terms)) XF refl

    pub f_sc_plus : force_scale k r (force_add k x y) ≡ force_add k (force_scale k r x) (force_scale k r y)
    unfolding force_add force_scale
    f_sc_plus = solve_force k all_f (t_f (var 18) (p_f XF YF)) (p_f (t_f (var 18) XF) (t_f (var 18) YF)) refl

    pub f_add_sc : force_scale k (k.add r s) x ≡ force_add k (force_scale k r x) (force_scale k s x)
    unfolding force_add force_scale
    f_add_sc = solve_force k all_f (t_f (terms.add (var 18) (var 19)) XF) (p_f (t_f (var 18) XF) (t_f (var 19) XF)) refl

    pub f_mul_sc : force_scale k (k.mul r s) x ≡ force_scale k r (force_scale k s x)
    unfolding force_scale
    f_mul_sc = solve_force k all_f (t_f (terms.mul (var 18) (var 19)) XF) (t_f (var 18) (t_f (var 19) XF)) refl

    pub f_one_sc : force_scale k k.one x ≡ x
    unfolding force_scale
    f_one_sc = solve_force k all_f (t_f unit XF) XF refl

    pub f_nil_sc : force_scale k k.zero x ≡ force_zero k
    unfolding force_zero force_scale
    f_nil_sc = solve_force k all_f (t_f nil XF) (force_zero_by terms) refl

    pub f_sc_zer : force_scale k r (force_zero k) ≡ force_zero k
    unfolding force_zero force_scale
    f_sc_zer = solve_force k all_f (t_f (var 18) (force_zero_by terms)) (force_zero_by terms) refl

  module _ (m n : Motion N) (f g : Force N) (r : N) where
    abbrev all_p : List N
    all_p = motion_list m ++ (motion_list n ++ (force_list f ++ (force_list g ++ (r ∷ []))))

    abbrev q : Motion Term → Force Term → Term
    q = pairing_by terms

    pub pair_plus : pairing k m (force_add k f g) ≡ k.add (pairing k m f) (pairing k m g)
    unfolding force_add pairing
    pair_plus = solve_number k all_p (q (motion_vars 0) (force_add_by terms (force_vars 12) (force_vars 18))) (terms.add (q (motion_vars 0) (force_vars 12)) (q (motion_vars 0) (force_vars 18))) refl

    pub pair_sc : pairing k m (force_scale k r f) ≡ k.mul r (pairing k m f)
    unfolding force_scale pairing
    pair_sc = solve_number k all_p (q (motion_vars 0) (force_scale_by terms (var 24) (force_vars 12))) (terms.mul (var 24) (q (motion_vars 0) (force_vars 12))) refl

    pub plus_pair : pairing k (motion_add k m n) f ≡ k.add (pairing k m f) (pairing k n f)
    unfolding motion_add pairing
    plus_pair = solve_number k all_p (q (motion_add_by terms (motion_vars 0) (motion_vars 6)) (force_vars 12)) (terms.add (q (motion_vars 0) (force_vars 12)) (q (motion_vars 6) (force_vars 12))) refl

    pub sc_pair : pairing k (motion_scale k r m) f ≡ k.mul r (pairing k m f)
    unfolding motion_scale pairing
    sc_pair = solve_number k all_p (q (motion_scale_by terms (var 24) (motion_vars 0)) (force_vars 12)) (terms.mul (var 24) (q (motion_vars 0) (force_vars 12))) refl
