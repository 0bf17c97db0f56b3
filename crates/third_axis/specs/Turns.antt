-- The placement of a turn about the third axis, by its cosine and its sine.
use Rattle.ring.specs.CommRing.{CommRing}
use Rattle.triple.specs.Ops.{Ops, ops}
use Rattle.triple.specs.Triples.{zero3}
use Rattle.spatial.specs.declared.placement.Placement.{Placement}

module _ {N : Type 0} (o : Ops N) where
  open o use {add, mul, neg, zero, one}

  -- the rows (c, s, 0), (−s, c, 0), (0, 0, 1)
  abbrev pub rotated_by : N → N → Placement N
  rotated_by c s =
      record {
        rotation =
            record {
              x = record { x = c; y = s; z = zero };
              y = record { x = neg s; y = c; z = zero };
              z = record { x = zero; y = zero; z = one };
            };
        offset = zero3 o;
      }

  -- (1 − t t) i and 2 t i: the cosine and the sine of the angle whose half has the tangent t, where i is 1/(1 + t t)
  abbrev pub cosine_by : N → N → N
  cosine_by t i = mul (add one (neg (mul t t))) i

  abbrev pub sine_by : N → N → N
  sine_by t i = mul (add t t) i

-- the same over a ring
module _ {N : Type 0} (k : CommRing N) where
  unfoldable pub rotated : N → N → Placement N
  rotated = rotated_by (ops k)

  abbrev pub cosine_at : N → N → N
  cosine_at = cosine_by (ops k)

  abbrev pub sine_at : N → N → N
  sine_at = sine_by (ops k)
