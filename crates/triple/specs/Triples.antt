-- Triples of numbers.
use Rattle.std.specs.Prelude.{ℤ}
use Rattle.ring.specs.CommRing.{CommRing}
use Rattle.ring.specs.Whole.{whole}
use Rattle.triple.specs.Ops.{Ops}
use Rattle.triple.specs.declared.triple.Triple.{Triple}

-- each entry by f
abbrev pub triple : {S N : Type 0} → (S → N) → Triple S → Triple N
triple f a = record { x = f a.x; y = f a.y; z = f a.z }

module _ {N : Type 0} (o : Ops N) where
  open o use {add, mul, neg}

  abbrev sub : N → N → N
  sub a b = add a (neg b)

  abbrev pub zero3 : Triple N
  zero3 = record { x = o.zero; y = o.zero; z = o.zero }

  -- (0, 0, 1)
  abbrev pub third3 : Triple N
  third3 = record { x = o.zero; y = o.zero; z = o.one }

  abbrev pub add3 : Triple N → Triple N → Triple N
  add3 a b = record { x = add a.x b.x; y = add a.y b.y; z = add a.z b.z }

  abbrev pub neg3 : Triple N → Triple N
  neg3 a = record { x = neg a.x; y = neg a.y; z = neg a.z }

  abbrev pub sub3 : Triple N → Triple N → Triple N
  sub3 a b = record { x = sub a.x b.x; y = sub a.y b.y; z = sub a.z b.z }

  abbrev pub scale3 : N → Triple N → Triple N
  scale3 s a = record { x = mul s a.x; y = mul s a.y; z = mul s a.z }

  -- a · b
  abbrev pub dot3 : Triple N → Triple N → N
  dot3 a b = add (mul a.x b.x) (add (mul a.y b.y) (mul a.z b.z))

  -- a × b
  abbrev pub cross3 : Triple N → Triple N → Triple N
  cross3 a b =
      record {
        x = sub (mul a.y b.z) (mul a.z b.y);
        y = sub (mul a.z b.x) (mul a.x b.z);
        z = sub (mul a.x b.y) (mul a.y b.x);
      }

-- three whole numbers, as they enter a ring
abbrev pub whole3 : {N : Type 0} → CommRing N → ℤ → ℤ → ℤ → Triple N
whole3 k x y z = record { x = whole k x; y = whole k y; z = whole k z }
