-- The operations of a ring without its laws: what the definitions of this crate are written over.
use Rattle.ring.specs.CommRing.{CommRing}

pub record Ops (N : Type 0) : Type 0 where
  pub zero : N
  pub one : N
  pub add : N → N → N
  pub neg : N → N
  pub mul : N → N → N

abbrev pub ops : {N : Type 0} → CommRing N → Ops N
ops k = record { zero = k.zero; one = k.one; add = k.add; neg = k.neg; mul = k.mul }
