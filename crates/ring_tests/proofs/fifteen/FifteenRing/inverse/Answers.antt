use Rattle.std.proofs.Common.{◌≡◌, ℕ, ◌<◌, zero-add, Some, None, Option, MatchOption, List, map, length, ◌≢◌, subst, refl, rules, arith}
use Rattle.std.specs.Option.{option_map}
use Rattle.std.specs.List.{AllWithin, HoldsAt, range_with_len}
use Rattle.std.proofs.lemmas.Iterator.{YieldsList-from_range, YieldsList-from_map_by, first_from_find}
use Rattle.std.proofs.lemmas.List.FromFn.{length-map-range_with_len, get_or-map-range_with_len}
use Rattle.ring.specs.Laws.{inverse_is}
use Rattle.ring_tests.specs.Fifteen.{Number, fifteens, fifteen_value, read, times, one, all_sought}
use Rattle.ring_tests.specs.declared.fifteen.Fifteen.{Fifteen}
use Rattle.ring_tests.proofs.fifteen.FifteenRing.inverse.Goals as goal

abbrev numbers : List Number
numbers = map read (range_with_len 0 15)

abbrev Other : Number → Number → Type 0
Other x y = times x y ≢ one

-- the first of all numbers that x multiplies to one is its inverse
first_is :
    (x : Number) (o : Option Fifteen)
    → MatchOption o (AllWithin (Other x) numbers 0 (length numbers))
    (λ f.
    (times x (fifteen_value f) ≡ one)
    × (i : ℕ)
    × (i < length numbers)
    × HoldsAt (λ y. y ≡ fifteen_value f) numbers i
    × AllWithin (Other x) numbers 0 i)
    → option_map fifteen_value o ≡ fifteens.inverse x
first_is x (Some f) h = inverse_is fifteens x (Some (fifteen_value f)) h.0
first_is x None h =
    inverse_is fifteens x None
    (all_sought x None
    (λ k less.
    subst (Other x) (get_or-map-range_with_len read 0 15 k k one less (zero-add k))
    (h k one (omega arith) (omega (arith, length-map-range_with_len read 0 15)))))

pub returns : goal.returns
returns c =
    let x = fifteen_value c.args.self in
    let digits = YieldsList-from_range 0 15 15 c.map.ensures.source refl in
    first_is x c.find.result
    (first_from_find _ _ c.find.result (λ y. times x y ≡ one) (Other x) c.find.ensures.ran
    (YieldsList-from_map_by _ fifteen_value read digits c.map.ensures.closure (λ d f q k. search rules))
    (λ f q k. search rules) (λ f q k. search rules))
