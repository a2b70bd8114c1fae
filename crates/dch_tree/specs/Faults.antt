-- The faults of keys, their paths, and which fault comes first.
use Rattle.std.specs.Prelude.{ℕ, List, ◌++◌, Bool, true, false, if◌then◌else◌, Option, Some, None, codes, fold}
use Rattle.std.specs.Ordering.{nat_cmp, is_lt}
use Rattle.std.specs.Cmp.Lexicographic.{slice_cmp}
use Rattle.std.specs.Fmt.{decimal}
use Rattle.dch_tree.specs.declared.fault.Fault.{Fault}
use Rattle.dch_tree.specs.declared.fault.Fault.TheVariants.{Key, Range}

-- the path of a table in a list, with the dot at its end, from the path of the table that has the list
abbrev pub element_path : List ℕ → List ℕ → ℕ → List ℕ
element_path table key index = table ++ key ++ codes "." ++ decimal index ++ codes "."

-- the fault comes before the other: a key before a value, then the lesser path, compared as bytes
abbrev pub is_before : Fault → Fault → Bool
is_before (Key path) (Key other) = is_lt (slice_cmp nat_cmp path other)
is_before (Key path) (Range other) = true
is_before (Range path) (Key other) = false
is_before (Range path) (Range other) = is_lt (slice_cmp nat_cmp path other)

-- the fault, if it comes before the first one so far
abbrev pub earlier : Option Fault → Fault → Option Fault
earlier None fault = Some fault
earlier (Some first) fault = if is_before fault first then Some fault else Some first

-- the first of the fault so far and some more
unfoldable pub first_found : Option Fault → List Fault → Option Fault
first_found found faults = fold earlier found faults
