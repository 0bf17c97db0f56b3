-- The rotation of four numbers a, b, c, d, which need not have length one.
use Rattle.std.specs.Prelude.{ℤ, Option}
use Rattle.std.specs.Option.{option_map}
use Rattle.ring.specs.CommRing.{CommRing}
use Rattle.ring.specs.Whole.{whole}
use Rattle.triple.specs.Ops.{Ops, ops}
use Rattle.linear.specs.declared.matrix.Matrix3.{Matrix3}
use Rattle.rotation.specs.declared.quaternion.Quaternion.{Quaternion}

-- each number by f
abbrev pub quaternion : {S N : Type 0} → (S → N) → Quaternion S → Quaternion N
quaternion f q = record { a = f q.a; b = f q.b; c = f q.c; d = f q.d }

-- four whole numbers, as they enter a ring
abbrev pub whole4 : {N : Type 0} → CommRing N → ℤ → ℤ → ℤ → ℤ → Quaternion N
whole4 k a b c d = record { a = whole k a; b = whole k b; c = whole k c; d = whole k d }

module _ {N : Type 0} (o : Ops N) where
  open o use {add, mul, neg}

  abbrev sub : N → N → N
  sub x y = add x (neg y)

  abbrev twice : N → N
  twice x = add x x

  -- N = a a + b b + c c + d d
  abbrev pub norm_by : Quaternion N → N
  norm_by q = add (mul q.a q.a) (add (mul q.b q.b) (add (mul q.c q.c) (mul q.d q.d)))

  -- 1/N times the rows, where i is 1/N:
  --   aa+bb−cc−dd   2(bc+ad)      2(bd−ac)
  --   2(bc−ad)      aa−bb+cc−dd   2(cd+ab)
  --   2(bd+ac)      2(cd−ab)      aa−bb−cc+dd
  abbrev pub rows_by : Quaternion N → N → Matrix3 N
  rows_by q i =
      let aa = mul q.a q.a in
      let bb = mul q.b q.b in
      let cc = mul q.c q.c in
      let dd = mul q.d q.d in
      let ab = mul q.a q.b in
      let ac = mul q.a q.c in
      let ad = mul q.a q.d in
      let bc = mul q.b q.c in
      let bd = mul q.b q.d in
      let cd = mul q.c q.d in
      record {
        x =
            record {
              x = mul i (sub (add aa bb) (add cc dd));
              y = mul i (twice (add bc ad));
              z = mul i (twice (sub bd ac));
            };
        y =
            record {
              x = mul i (twice (sub bc ad));
              y = mul i (sub (add aa cc) (add bb dd));
              z = mul i (twice (add cd ab));
            };
        z =
            record {
              x = mul i (twice (add bd ac));
              y = mul i (twice (sub cd ab));
              z = mul i (sub (add aa dd) (add bb cc));
            };
      }

-- the same over a ring, and shut: what contracts and laws speak of
module _ {N : Type 0} (k : CommRing N) where
  unfoldable pub norm : Quaternion N → N
  norm = norm_by (ops k)

  unfoldable pub rows : Quaternion N → N → Matrix3 N
  rows = rows_by (ops k)

  -- none where N is no unit
  abbrev pub rotation : Quaternion N → Option (Matrix3 N)
  rotation q = option_map (rows q) (k.inverse (norm q))
