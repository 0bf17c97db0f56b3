-- Numbers, vectors and lists as text.
use Rattle.std.specs.Prelude.{ℕ, ◌-◌, ◌^◌, List, ◌++◌, codes, map, take}
use Rattle.std.specs.List.{join_with_byte}
use Rattle.std.specs.Fmt.{decimal}
use Rattle.triple.specs.declared.triple.Triple.{Triple}

-- a number's parts in decimal, with commas (44) between them; of more parts than a usize can count only the first
-- 2 ^ 64 - 1
unfoldable pub number_text : List ℕ → List ℕ
number_text parts = join_with_byte 44 (map decimal (take (2 ^ 64 - 1) parts))

module _ {N : Type 0} (text : N → List ℕ) where
  -- the three entries, with blanks between them
  abbrev pub row_text : Triple N → List ℕ
  row_text t = text t.x ++ codes " " ++ text t.y ++ codes " " ++ text t.z

  -- two triples, with a semicolon and a blank between them
  abbrev pub six_text : Triple N → Triple N → List ℕ
  six_text a b = row_text a ++ codes "; " ++ row_text b

  -- the numbers of a list, with blanks (32) between them
  abbrev pub list_text : List N → List ℕ
  list_text xs = join_with_byte 32 (map text xs)
