-- The operations over terms: a definition that is given terms for numbers quotes itself, and the ring
-- solver proves what follows from the laws of a commutative ring.
use Rattle.std.proofs.Common.{◌≡◌, ℕ, ◌+◌, Bool, true, false, cond, List, [], ◌∷◌, ◌++◌, get_or, refl}
use Rattle.ring.specs.CommRing.{CommRing}
use Rattle.ring.proofs.Solve.{Term, var, nil, unit, ◌⊕◌, ◌⊗◌, opp, agree, eval, solve}
use Rattle.triple.specs.Ops.{Ops}
use Rattle.triple.specs.Triples.{triple}
use Rattle.triple.specs.declared.triple.Triple.{Triple}
use Rattle.linear.specs.declared.matrix.Matrix3.{Matrix3}
use Rattle.symmetric.specs.declared.symmetric.Symmetric3.{Symmetric3}
use Rattle.motion.specs.Vectors.{motion, force}
use Rattle.motion.specs.declared.vectors.Motion.{Motion}
use Rattle.motion.specs.declared.vectors.Force.{Force}
use Rattle.spatial.specs.declared.placement.Placement.{Placement}
use Rattle.spatial.specs.declared.link.Link.{Link}

abbrev pub terms : Ops Term
terms = record { zero = nil; one = unit; add = ◌⊕◌; neg = opp; mul = ◌⊗◌ }

-- terms for the entries, numbered from n
abbrev pub triple_vars : ℕ → Triple Term
triple_vars n = record { x = var n; y = var (n + 1); z = var (n + 2) }

abbrev pub matrix_vars : ℕ → Matrix3 Term
matrix_vars n = record { x = triple_vars n; y = triple_vars (n + 3); z = triple_vars (n + 6) }

abbrev pub symmetric_vars : ℕ → Symmetric3 Term
symmetric_vars n = record { xx = var n; xy = var (n + 1); xz = var (n + 2); yy = var (n + 3); yz = var (n + 4); zz = var (n + 5) }

abbrev pub motion_vars : ℕ → Motion Term
motion_vars n = record { angular = triple_vars n; linear = triple_vars (n + 3) }

abbrev pub force_vars : ℕ → Force Term
force_vars n = record { moment = triple_vars n; linear = triple_vars (n + 3) }

abbrev pub link_vars : ℕ → Link Term
link_vars n = record { mass = var n; first_moment = triple_vars (n + 1); inertia = symmetric_vars (n + 4) }

abbrev pub placement_vars : ℕ → Placement Term
placement_vars n = record { rotation = matrix_vars n; offset = triple_vars (n + 9) }

-- the entries, in the same order
module _ {N : Type 0} where
  abbrev pub triple_list : Triple N → List N
  triple_list v = v.x ∷ v.y ∷ v.z ∷ []

  abbrev pub matrix_list : Matrix3 N → List N
  matrix_list m = triple_list m.x ++ (triple_list m.y ++ triple_list m.z)

  abbrev pub symmetric_list : Symmetric3 N → List N
  symmetric_list s = s.xx ∷ s.xy ∷ s.xz ∷ s.yy ∷ s.yz ∷ s.zz ∷ []

  abbrev pub motion_list : Motion N → List N
  motion_list m = triple_list m.angular ++ triple_list m.linear

  abbrev pub force_list : Force N → List N
  force_list f = triple_list f.moment ++ triple_list f.linear

  abbrev pub link_list : Link N → List N
  link_list l = l.mass ∷ (triple_list l.first_moment ++ symmetric_list l.inertia)

  abbrev pub placement_list : Placement N → List N
  placement_list p = matrix_list p.rotation ++ triple_list p.offset

abbrev and : Bool → Bool → Bool
and a b = cond a b false

fst : (a b : Bool) → and a b ≡ true → a ≡ true
fst true b e = refl
fst false b e = e

snd : (a b : Bool) → and a b ≡ true → b ≡ true
snd true b e = e
snd false b e = cc

abbrev pub triples_agree : Triple Term → Triple Term → Bool
triples_agree a b = and (agree a.x b.x) (and (agree a.y b.y) (agree a.z b.z))

abbrev pub forces_agree : Force Term → Force Term → Bool
forces_agree a b = and (triples_agree a.moment b.moment) (triples_agree a.linear b.linear)

abbrev pub motions_agree : Motion Term → Motion Term → Bool
motions_agree a b = and (triples_agree a.angular b.angular) (triples_agree a.linear b.linear)

module _ {N : Type 0} (k : CommRing N) (xs : List N) where
  abbrev pub at : ℕ → N
  at i = get_or xs i k.zero

  pub solve_number : (a b : Term) → agree a b ≡ true → eval k at a ≡ eval k at b
  solve_number a b e = solve k at a b e

  pub solve_triple : (a b : Triple Term) → triples_agree a b ≡ true → triple (eval k at) a ≡ triple (eval k at) b
  solve_triple a b e =
      let p = solve_number a.x b.x (fst _ _ e) in
      let f = snd _ _ e in
      let q = solve_number a.y b.y (fst _ _ f) in
      let r = solve_number a.z b.z (snd _ _ f) in
      λ i. record { x = p i; y = q i; z = r i }

  pub solve_force : (a b : Force Term) → forces_agree a b ≡ true → force (eval k at) a ≡ force (eval k at) b
  solve_force a b e =
      let p = solve_triple a.moment b.moment (fst _ _ e) in
      let q = solve_triple a.linear b.linear (snd _ _ e) in
      λ i. record { moment = p i; linear = q i }

  pub solve_motion : (a b : Motion Term) → motions_agree a b ≡ true → motion (eval k at) a ≡ motion (eval k at) b
  solve_motion a b e =
      let p = solve_triple a.angular b.angular (fst _ _ e) in
      let q = solve_triple a.linear b.linear (snd _ _ e) in
      λ i. record { angular = p i; linear = q i }
