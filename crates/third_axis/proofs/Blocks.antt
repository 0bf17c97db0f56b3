-- The blocks of an inertia, turned and slid, in every ring.
use mathlib.Core.Path.{◌≡◌, refl, ap, ◌∙◌}
use mathlib.Core.List.{[], ◌∷◌, ◌++◌}
use Rattle.ring.specs.CommRing.{CommRing}
use Rattle.ring.proofs.Solve.{var, opp}
use Rattle.triple.specs.Ops.{Ops, ops}
use Rattle.triple.specs.Triples.{zero3}
use Rattle.linear.specs.Matrices.{matrix_add, conjugate, cross_columns}
use Rattle.symmetric.specs.Symmetrics.{full, symmetric_conjugate}
use Rattle.triple.specs.declared.triple.Triple.{Triple}
use Rattle.linear.specs.declared.matrix.Matrix3.{Matrix3}
use Rattle.symmetric.specs.declared.symmetric.Symmetric3.{Symmetric3}
use Rattle.spatial.specs.Placements.{slid, slid_by}
use Rattle.symmetric.specs.Symmetrics.{leaned}
use Rattle.inertia.specs.Inertias.{turned_inertia, shifted_inertia, carried}
use Rattle.inertia.specs.declared.inertia.Inertia.{Inertia}
use Rattle.spatial.proofs.Quote.{terms, symmetric_vars, matrix_vars, symmetric_list, matrix_list}
use Rattle.third_axis.specs.Turns.{rotated, rotated_by}
use Rattle.third_axis.specs.Sparse.{turned_symmetric, turned_matrix, slid_coupling, slid_angular}
use Rattle.third_axis.proofs.Quote.{solve_symmetric, solve_matrix}

module _ {N : Type 0} (o : Ops N) where
  open o use {add, mul}

  -- the two forms at the products that the blocks share
  abbrev turned_symmetric_at : N → N → Symmetric3 N → Symmetric3 N
  turned_symmetric_at c b = turned_symmetric o c b (mul c c) (mul c b) (add (mul b b) (mul c c))

  abbrev turned_matrix_at : N → N → Matrix3 N → Matrix3 N
  turned_matrix_at c b = turned_matrix o c b (mul c c) (mul c b) (add (mul b b) (mul c c))

  -- (0, 0, q)
  abbrev third_by : N → Triple N
  third_by q = record { x = o.zero; y = o.zero; z = q }

module _ {N : Type 0} (k : CommRing N) where
  symmetric_turned : (c s : N) (a : Symmetric3 N) → turned_symmetric_at (ops k) c (k.neg s) a ≡ symmetric_conjugate (ops k) (rotated_by (ops k) c s).rotation a
  symmetric_turned c s a =
      solve_symmetric k (symmetric_list a ++ (c ∷ s ∷ []))
      (turned_symmetric_at terms (var 6) (opp (var 7)) (symmetric_vars 0))
      (symmetric_conjugate terms (rotated_by terms (var 6) (var 7)).rotation (symmetric_vars 0))
      refl
      refl

  matrix_turned : (c s : N) (a : Matrix3 N) → turned_matrix_at (ops k) c (k.neg s) a ≡ conjugate (ops k) (rotated_by (ops k) c s).rotation a
  matrix_turned c s a =
      solve_matrix k (matrix_list a ++ (c ∷ s ∷ []))
      (turned_matrix_at terms (var 9) (opp (var 10)) (matrix_vars 0))
      (conjugate terms (rotated_by terms (var 9) (var 10)).rotation (matrix_vars 0))
      refl
      refl
      refl

  -- a shift by nothing
  coupling_kept : (c : Matrix3 N) (l : Symmetric3 N) → c ≡ matrix_add (ops k) c (cross_columns (ops k) (zero3 (ops k)) (full l))
  coupling_kept c l =
      solve_matrix k (matrix_list c ++ symmetric_list l)
      (matrix_vars 0)
      (matrix_add terms (matrix_vars 0) (cross_columns terms (zero3 terms) (full (symmetric_vars 9))))
      refl
      refl
      refl

  angular_kept : (c d : Matrix3 N) (s : Symmetric3 N) → s ≡ leaned (ops k) (zero3 (ops k)) c d s
  angular_kept c d s =
      solve_symmetric k (symmetric_list s ++ (matrix_list c ++ matrix_list d))
      (symmetric_vars 0)
      (leaned terms (zero3 terms) (matrix_vars 6) (matrix_vars 15) (symmetric_vars 0))
      refl
      refl

  unshifted : (a : Inertia N) → a ≡ shifted_inertia k (zero3 (ops k)) a
  unfolding shifted_inertia
  unshifted a =
      let e = coupling_kept a.coupling a.linear in
      let f = angular_kept a.coupling (matrix_add (ops k) a.coupling (cross_columns (ops k) (zero3 (ops k)) (full a.linear))) a.angular in
      λ i. record { angular = f i; coupling = e i; linear = a.linear }

  turned_inertia_is :
      (c s : N) (a : Inertia N) {x z : Symmetric3 N} {y : Matrix3 N}
      → x ≡ turned_symmetric_at (ops k) c (k.neg s) a.angular
      → y ≡ turned_matrix_at (ops k) c (k.neg s) a.coupling
      → z ≡ turned_symmetric_at (ops k) c (k.neg s) a.linear
      → ◌≡◌ {A = Inertia N} (record { angular = x; coupling = y; linear = z }) (carried k (rotated k c s) a)
  unfolding turned_inertia rotated
  turned_inertia_is c s a {x} {z} {y} e f g =
      unshifted (record { angular = x; coupling = y; linear = z })
      ∙ ap (shifted_inertia k (zero3 (ops k)))
      (λ i. record {
        angular = (e ∙ symmetric_turned c s a.angular) i;
        coupling = (f ∙ matrix_turned c s a.coupling) i;
        linear = (g ∙ symmetric_turned c s a.linear) i;
      })

  -- the rows of a slide are those of the identity
  symmetric_kept : (q : N) (a : Symmetric3 N) → a ≡ symmetric_conjugate (ops k) (slid_by (ops k) q).rotation a
  symmetric_kept q a =
      solve_symmetric k (symmetric_list a ++ (q ∷ []))
      (symmetric_vars 0)
      (symmetric_conjugate terms (slid_by terms (var 6)).rotation (symmetric_vars 0))
      refl
      refl

  matrix_kept : (q : N) (a : Matrix3 N) → a ≡ conjugate (ops k) (slid_by (ops k) q).rotation a
  matrix_kept q a =
      solve_matrix k (matrix_list a ++ (q ∷ []))
      (matrix_vars 0)
      (conjugate terms (slid_by terms (var 9)).rotation (matrix_vars 0))
      refl
      refl
      refl

  coupling_slid : (q : N) (c : Matrix3 N) (l : Symmetric3 N) → slid_coupling (ops k) q c l ≡ matrix_add (ops k) c (cross_columns (ops k) (third_by (ops k) q) (full l))
  coupling_slid q c l =
      solve_matrix k (matrix_list c ++ (symmetric_list l ++ (q ∷ [])))
      (slid_coupling terms (var 15) (matrix_vars 0) (symmetric_vars 9))
      (matrix_add terms (matrix_vars 0) (cross_columns terms (third_by terms (var 15)) (full (symmetric_vars 9))))
      refl
      refl
      refl

  angular_slid : (q : N) (c d : Matrix3 N) (s : Symmetric3 N) → slid_angular (ops k) q c d s ≡ leaned (ops k) (third_by (ops k) q) c d s
  angular_slid q c d s =
      solve_symmetric k (symmetric_list s ++ (matrix_list c ++ (matrix_list d ++ (q ∷ []))))
      (slid_angular terms (var 24) (matrix_vars 6) (matrix_vars 15) (symmetric_vars 0))
      (leaned terms (third_by terms (var 24)) (matrix_vars 6) (matrix_vars 15) (symmetric_vars 0))
      refl
      refl

  shifted_is :
      (q : N) (a : Inertia N) {x : Symmetric3 N} {y : Matrix3 N}
      → y ≡ slid_coupling (ops k) q a.coupling a.linear → x ≡ slid_angular (ops k) q a.coupling y a.angular
      → ◌≡◌ {A = Inertia N} (record { angular = x; coupling = y; linear = a.linear }) (shifted_inertia k (third_by (ops k) q) a)
  unfolding shifted_inertia
  shifted_is q a {x} {y} e f =
      let d = e ∙ coupling_slid q a.coupling a.linear in
      let h = f ∙ angular_slid q a.coupling y a.angular ∙ ap (λ y. leaned (ops k) (third_by (ops k) q) a.coupling y a.angular) d in
      λ i. record { angular = h i; coupling = d i; linear = a.linear }

  pub slid_inertia_is :
      (q : N) (a : Inertia N) {x : Symmetric3 N} {y : Matrix3 N}
      → y ≡ slid_coupling (ops k) q a.coupling a.linear → x ≡ slid_angular (ops k) q a.coupling y a.angular
      → ◌≡◌ {A = Inertia N} (record { angular = x; coupling = y; linear = a.linear }) (carried k (slid k q) a)
  unfolding turned_inertia slid
  slid_inertia_is q a e f =
      shifted_is q a e f
      ∙ ap (shifted_inertia k (third_by (ops k) q))
      (λ i. record {
        angular = symmetric_kept q a.angular i;
        coupling = matrix_kept q a.coupling i;
        linear = symmetric_kept q a.linear i;
      })

  -- at the products that the code works out once, with the opposite turn's cosine d and its sine b
  pub turn_carried_is :
      (c s : N) (a : Inertia N) {d b p q n : N} {x z : Symmetric3 N} {y : Matrix3 N}
      → d ≡ c → b ≡ k.neg s → p ≡ k.mul c c → q ≡ k.mul c b → n ≡ k.add (k.mul b b) p
      → x ≡ turned_symmetric (ops k) d b p q n a.angular
      → y ≡ turned_matrix (ops k) d b p q n a.coupling
      → z ≡ turned_symmetric (ops k) d b p q n a.linear
      → ◌≡◌ {A = Inertia N} (record { angular = x; coupling = y; linear = z }) (carried k (rotated k c s) a)
  turn_carried_is c s a {d} {b} {p} {q} {n} ed eb ep eq en ex ey ez =
      let fq : q ≡ k.mul c (k.neg s) = eq ∙ ap (k.mul c) eb in
      let fn : n ≡ k.add (k.mul (k.neg s) (k.neg s)) (k.mul c c) = en ∙ (λ i. k.add (k.mul (eb i) (eb i)) (ep i)) in
      turned_inertia_is c s a
      (ex ∙ (λ i. turned_symmetric (ops k) (ed i) (eb i) (ep i) (fq i) (fn i) a.angular))
      (ey ∙ (λ i. turned_matrix (ops k) (ed i) (eb i) (ep i) (fq i) (fn i) a.coupling))
      (ez ∙ (λ i. turned_symmetric (ops k) (ed i) (eb i) (ep i) (fq i) (fn i) a.linear))
