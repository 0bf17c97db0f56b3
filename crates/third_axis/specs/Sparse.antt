-- What is left of a placement's work where its entries are zero and one.
use Rattle.triple.specs.Ops.{Ops}
use Rattle.triple.specs.declared.triple.Triple.{Triple}
use Rattle.linear.specs.declared.matrix.Matrix3.{Matrix3}
use Rattle.symmetric.specs.declared.symmetric.Symmetric3.{Symmetric3}

module _ {N : Type 0} (o : Ops N) where
  open o use {add, mul, neg}

  abbrev sub : N → N → N
  sub a b = add a (neg b)

  -- the rows (c, s, 0), (−s, c, 0), (0, 0, 1) times a
  abbrev pub turned3 : N → N → Triple N → Triple N
  turned3 c s a =
      record { x = add (mul c a.x) (mul s a.y); y = sub (mul c a.y) (mul s a.x); z = a.z }

  -- a − (0, 0, q) × b
  abbrev pub moved3 : N → Triple N → Triple N → Triple N
  moved3 q b a = record { x = add (mul q b.y) a.x; y = sub a.y (mul q b.x); z = a.z }

  -- Eᵀ S E, where c is the cosine, b the opposite of the sine, and p, q and n are c c, c b and c c + b b
  abbrev pub turned_symmetric : N → N → N → N → N → Symmetric3 N → Symmetric3 N
  turned_symmetric c b p q n a =
      let d = sub a.xx a.yy in
      let m = add a.xy a.xy in
      let u = add (mul p d) (mul q m) in
      let w = sub (mul p m) (mul q d) in
      let third = turned3 c b (record { x = a.xz; y = a.yz; z = a.zz }) in
      record {
        xx = add (mul n a.yy) u;
        xy = sub w (mul n a.xy);
        xz = third.x;
        yy = sub (mul n a.xx) u;
        yz = third.y;
        zz = third.z;
      }

  -- Eᵀ C E, in the same way
  abbrev pub turned_matrix : N → N → N → N → N → Matrix3 N → Matrix3 N
  turned_matrix c b p q n a =
      let d = sub a.x.x a.y.y in
      let m = add a.x.y a.y.x in
      let u = add (mul p d) (mul q m) in
      let w = sub (mul p m) (mul q d) in
      let third = turned3 c b (record { x = a.x.z; y = a.y.z; z = a.z.z }) in
      record {
        x = record { x = add (mul n a.y.y) u; y = sub w (mul n a.y.x); z = third.x };
        y = record { x = sub w (mul n a.x.y); y = sub (mul n a.x.x) u; z = third.y };
        z = turned3 c b a.z;
      }

  -- c + (0, 0, q) × each column of l
  abbrev pub slid_coupling : N → Matrix3 N → Symmetric3 N → Matrix3 N
  slid_coupling q c l =
      let t = mul q l.xy in
      record {
        x = record { x = sub c.x.x t; y = sub c.x.y (mul q l.yy); z = sub c.x.z (mul q l.yz) };
        y = record { x = add (mul q l.xx) c.y.x; y = add c.y.y t; z = add (mul q l.xz) c.y.z };
        z = c.z;
      }

  -- s − c r× + r× dᵀ by its six entries, with r = (0, 0, q)
  abbrev pub slid_angular : N → Matrix3 N → Matrix3 N → Symmetric3 N → Symmetric3 N
  slid_angular q c d s =
      record {
        xx = sub s.xx (mul q (add c.x.y d.x.y));
        xy = add (mul q (sub c.x.x d.y.y)) s.xy;
        xz = sub s.xz (mul q d.z.y);
        yy = add (mul q (add c.y.x d.y.x)) s.yy;
        yz = add (mul q d.z.x) s.yz;
        zz = s.zz;
      }
