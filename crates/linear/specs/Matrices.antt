-- Matrices of three rows.
use Rattle.triple.specs.Ops.{Ops}
use Rattle.triple.specs.Triples.{triple, add3, sub3, scale3, dot3}
use Rattle.triple.specs.declared.triple.Triple.{Triple}
use Rattle.linear.specs.declared.matrix.Matrix3.{Matrix3}

-- each entry by f
abbrev pub matrix : {S N : Type 0} → (S → N) → Matrix3 S → Matrix3 N
matrix f m = record { x = triple f m.x; y = triple f m.y; z = triple f m.z }

abbrev pub transposed : {N : Type 0} → Matrix3 N → Matrix3 N
transposed m =
    record {
      x = record { x = m.x.x; y = m.y.x; z = m.z.x };
      y = record { x = m.x.y; y = m.y.y; z = m.z.y };
      z = record { x = m.x.z; y = m.y.z; z = m.z.z };
    }

module _ {N : Type 0} (o : Ops N) where
  -- a matrix times a column
  abbrev pub times : Matrix3 N → Triple N → Triple N
  times m a = record { x = dot3 o m.x a; y = dot3 o m.y a; z = dot3 o m.z a }

  abbrev pub matrix_add : Matrix3 N → Matrix3 N → Matrix3 N
  matrix_add a b = record { x = add3 o a.x b.x; y = add3 o a.y b.y; z = add3 o a.z b.z }

  -- Eᵀ C E
  abbrev pub conjugate : Matrix3 N → Matrix3 N → Matrix3 N
  conjugate e c =
      let f = transposed e in
      let g : Matrix3 N = record { x = times c f.x; y = times c f.y; z = times c f.z } in
      record { x = times g f.x; y = times g f.y; z = times g f.z }

  -- r × each column of m
  abbrev pub cross_columns : Triple N → Matrix3 N → Matrix3 N
  cross_columns r m =
      record {
        x = sub3 o (scale3 o r.y m.z) (scale3 o r.z m.y);
        y = sub3 o (scale3 o r.z m.x) (scale3 o r.x m.z);
        z = sub3 o (scale3 o r.x m.y) (scale3 o r.y m.x);
      }

  -- m − a bᵀ
  abbrev pub minus_outer : Triple N → Triple N → Matrix3 N → Matrix3 N
  minus_outer a b m =
      record {
        x = sub3 o m.x (scale3 o a.x b);
        y = sub3 o m.y (scale3 o a.y b);
        z = sub3 o m.z (scale3 o a.z b);
      }
