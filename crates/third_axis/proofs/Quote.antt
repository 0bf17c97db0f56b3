-- The ring solver for matrices, entry by entry.
use mathlib.Core.Path.{◌≡◌}
use mathlib.Core.List.{List}
use mathlib.Core.Bool.{true}
use Rattle.ring.specs.CommRing.{CommRing}
use Rattle.ring.proofs.Solve.{Term, eval}
use Rattle.linear.specs.Matrices.{matrix}
use Rattle.symmetric.specs.Symmetrics.{symmetric}
use Rattle.triple.specs.declared.triple.Triple.{Triple}
use Rattle.linear.specs.declared.matrix.Matrix3.{Matrix3}
use Rattle.symmetric.specs.declared.symmetric.Symmetric3.{Symmetric3}
use Rattle.spatial.proofs.Quote.{triples_agree, at, solve_triple}

-- the six entries of a symmetric matrix as two triples
abbrev pub upper : Symmetric3 Term → Triple Term
upper s = record { x = s.xx; y = s.xy; z = s.xz }

abbrev pub lower : Symmetric3 Term → Triple Term
lower s = record { x = s.yy; y = s.yz; z = s.zz }

module _ {N : Type 0} (k : CommRing N) (xs : List N) where
  pub solve_symmetric :
      (a b : Symmetric3 Term) → triples_agree (upper a) (upper b) ≡ true → triples_agree (lower a) (lower b) ≡ true
      → symmetric (eval k (at k xs)) a ≡ symmetric (eval k (at k xs)) b
  solve_symmetric a b e f =
      let p = solve_triple k xs (upper a) (upper b) e in
      let q = solve_triple k xs (lower a) (lower b) f in
      λ i. record { xx = (p i).x; xy = (p i).y; xz = (p i).z; yy = (q i).x; yz = (q i).y; zz = (q i).z }

  pub solve_matrix :
      (a b : Matrix3 Term) → triples_agree a.x b.x ≡ true → triples_agree a.y b.y ≡ true
      → triples_agree a.z b.z ≡ true → matrix (eval k (at k xs)) a ≡ matrix (eval k (at k xs)) b
  solve_matrix a b e f g =
      let p = solve_triple k xs a.x b.x e in
      let q = solve_triple k xs a.y b.y f in
      let r = solve_triple k xs a.z b.z g in
      λ i. record { x = p i; y = q i; z = r i }
