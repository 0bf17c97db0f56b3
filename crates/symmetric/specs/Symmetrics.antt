-- Symmetric matrices of three rows, by their six entries.
use Rattle.std.specs.Prelude.{ℤ}
use Rattle.ring.specs.CommRing.{CommRing}
use Rattle.ring.specs.Whole.{whole}
use Rattle.triple.specs.Ops.{Ops}
use Rattle.triple.specs.Triples.{dot3, cross3}
use Rattle.triple.specs.declared.triple.Triple.{Triple}
use Rattle.linear.specs.Matrices.{transposed, times}
use Rattle.linear.specs.declared.matrix.Matrix3.{Matrix3}
use Rattle.symmetric.specs.declared.symmetric.Symmetric3.{Symmetric3}

-- each entry by f
abbrev pub symmetric : {S N : Type 0} → (S → N) → Symmetric3 S → Symmetric3 N
symmetric f s =
    record { xx = f s.xx; xy = f s.xy; xz = f s.xz; yy = f s.yy; yz = f s.yz; zz = f s.zz }

-- six whole numbers, as they enter a ring
abbrev pub whole6 : {N : Type 0} → CommRing N → ℤ → ℤ → ℤ → ℤ → ℤ → ℤ → Symmetric3 N
whole6 k xx xy xz yy yz zz =
    record { xx = whole k xx; xy = whole k xy; xz = whole k xz; yy = whole k yy; yz = whole k yz; zz = whole k zz }

-- all nine entries
abbrev pub full : {N : Type 0} → Symmetric3 N → Matrix3 N
full s =
    record {
      x = record { x = s.xx; y = s.xy; z = s.xz };
      y = record { x = s.xy; y = s.yy; z = s.yz };
      z = record { x = s.xz; y = s.yz; z = s.zz };
    }

module _ {N : Type 0} (o : Ops N) where
  open o use {add, mul, neg}

  abbrev pub symmetric_add : Symmetric3 N → Symmetric3 N → Symmetric3 N
  symmetric_add a b =
      record {
        xx = add a.xx b.xx;
        xy = add a.xy b.xy;
        xz = add a.xz b.xz;
        yy = add a.yy b.yy;
        yz = add a.yz b.yz;
        zz = add a.zz b.zz;
      }

  -- Eᵀ S E, by its six entries
  abbrev pub symmetric_conjugate : Matrix3 N → Symmetric3 N → Symmetric3 N
  symmetric_conjugate e s =
      let f = transposed e in
      let gx = times o (full s) f.x in
      let gy = times o (full s) f.y in
      let gz = times o (full s) f.z in
      record {
        xx = dot3 o f.x gx;
        xy = dot3 o f.x gy;
        xz = dot3 o f.x gz;
        yy = dot3 o f.y gy;
        yz = dot3 o f.y gz;
        zz = dot3 o f.z gz;
      }

  -- s − a bᵀ by its six entries, where a bᵀ is symmetric
  abbrev pub symmetric_minus_outer : Triple N → Triple N → Symmetric3 N → Symmetric3 N
  symmetric_minus_outer a b s =
      record {
        xx = add s.xx (neg (mul a.x b.x));
        xy = add s.xy (neg (mul a.x b.y));
        xz = add s.xz (neg (mul a.x b.z));
        yy = add s.yy (neg (mul a.y b.y));
        yz = add s.yz (neg (mul a.y b.z));
        zz = add s.zz (neg (mul a.z b.z));
      }

  -- s − c r× + r× dᵀ by its six entries
  abbrev pub leaned : Triple N → Matrix3 N → Matrix3 N → Symmetric3 N → Symmetric3 N
  leaned r c d s =
      let cx = cross3 o r c.x in
      let cy = cross3 o r c.y in
      let cz = cross3 o r c.z in
      let dx = cross3 o r d.x in
      let dy = cross3 o r d.y in
      let dz = cross3 o r d.z in
      record {
        xx = add (add s.xx cx.x) dx.x;
        xy = add (add s.xy cx.y) dy.x;
        xz = add (add s.xz cx.z) dz.x;
        yy = add (add s.yy cy.y) dy.y;
        yz = add (add s.yz cy.z) dz.y;
        zz = add (add s.zz cz.z) dz.z;
      }
