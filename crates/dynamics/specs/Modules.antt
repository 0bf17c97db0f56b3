-- Motions and forces as modules over the ring, and the joints of a rig as maps between them.
use Rattle.std.proofs.Common.{ap, ◌∙◌, arith}
use Rattle.ring.specs.CommRing.{CommRing}
use Rattle.motion.specs.Vectors.{motion_zero, motion_add, motion_scale, force_zero, force_add, force_scale, pairing}
use Rattle.spatial.specs.Placements.{outward, inward}
use Rattle.motion.specs.declared.vectors.Motion.{Motion}
use Rattle.motion.specs.declared.vectors.Force.{Force}
use Rattle.joint.specs.Joints.{axis, joint_outward, joint_inward}
use Rattle.spatial_laws.proofs.Laws.{adjoint, outward_add, outward_scale, inward_add, inward_scale}
use Rattle.spatial_laws.proofs.Modules.{m_assoc, m_comm, m_zer, m_sc_plus, m_add_sc, m_mul_sc, m_one_sc, m_nil_sc, m_sc_zer, f_assoc, f_comm, f_zer, f_sc_plus, f_add_sc, f_mul_sc, f_one_sc, f_nil_sc, f_sc_zer, pair_plus, pair_sc, plus_pair, sc_pair}
use Rattle.tree_laws.specs.Space.{Module, Pairing}
use Rattle.tree_laws.specs.Tree.{Tree}
use Rattle.dynamics.specs.Held.{Held, par}

module _ {N : Type 0} (k : CommRing N) where
  abbrev pub motions : Module N k (Motion N)
  motions =
      record {
        plus = motion_add k;
        zer = motion_zero k;
        sc = motion_scale k;
        plus_assoc = λ x y z. m_assoc k x y z k.zero k.zero;
        plus_comm = λ x y. m_comm k x y x k.zero k.zero;
        plus_zer = λ x. m_zer k x x x k.zero k.zero;
        sc_plus = λ r x y. m_sc_plus k x y x r r;
        add_sc = λ r s x. m_add_sc k x x x r s;
        mul_sc = λ r s x. m_mul_sc k x x x r s;
        one_sc = λ x. m_one_sc k x x x k.zero k.zero;
        nil_sc = λ x. m_nil_sc k x x x k.zero k.zero;
        sc_zer = λ r. m_sc_zer k (motion_zero k) (motion_zero k) (motion_zero k) r r;
      }

  abbrev pub forces : Module N k (Force N)
  forces =
      record {
        plus = force_add k;
        zer = force_zero k;
        sc = force_scale k;
        plus_assoc = λ x y z. f_assoc k x y z k.zero k.zero;
        plus_comm = λ x y. f_comm k x y x k.zero k.zero;
        plus_zer = λ x. f_zer k x x x k.zero k.zero;
        sc_plus = λ r x y. f_sc_plus k x y x r r;
        add_sc = λ r s x. f_add_sc k x x x r s;
        mul_sc = λ r s x. f_mul_sc k x x x r s;
        one_sc = λ x. f_one_sc k x x x k.zero k.zero;
        nil_sc = λ x. f_nil_sc k x x x k.zero k.zero;
        sc_zer = λ r. f_sc_zer k (force_zero k) (force_zero k) (force_zero k) r r;
      }

  abbrev pub power : Pairing N (Motion N) (Force N) k motions forces
  power =
      record {
        pair = pairing k;
        pair_plus = λ m f g. pair_plus k m m f g k.zero;
        pair_sc = λ m r f. pair_sc k m m f f r;
        plus_pair = λ m n f. plus_pair k m n f f k.zero;
        sc_pair = λ r m f. sc_pair k m m f f r;
      }

  -- p(i), Xᵢ, Xᵢ' and S of each joint
  abbrev pub tree : Held N → Tree N (Motion N) (Force N) k motions forces power
  tree h =
      record {
        par = par h;
        lower = λ i. omega arith;
        X = λ i. joint_outward k (h.joints i);
        X' = λ i. joint_inward k (h.joints i);
        S = λ i. axis k (h.joints i).kind;
        X_plus = λ i m n. ap (outward k (h.joints i).own) (outward_add k (h.joints i).fixed m n) ∙ outward_add k (h.joints i).own _ _;
        X_sc = λ i r m. ap (outward k (h.joints i).own) (outward_scale k (h.joints i).fixed r m) ∙ outward_scale k (h.joints i).own r _;
        X'_plus = λ i f g. ap (inward k (h.joints i).fixed) (inward_add k (h.joints i).own f g) ∙ inward_add k (h.joints i).fixed _ _;
        X'_sc = λ i r f. ap (inward k (h.joints i).fixed) (inward_scale k (h.joints i).own r f) ∙ inward_scale k (h.joints i).fixed r _;
        adjoint =
            λ i m f.
            adjoint k (h.joints i).own (outward k (h.joints i).fixed m) f
            ∙ adjoint k (h.joints i).fixed m (inward k (h.joints i).own f);
      }
