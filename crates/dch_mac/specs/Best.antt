-- The best of the combinations that may be chosen (TS 25.321 11.4).
use Rattle.std.specs.Prelude.{◌≡◌, ◌*◌, ℕ, List, false, if◌then◌else◌, length, map}
use Rattle.std.specs.List.{range_with_len}
use Rattle.std.specs.Ordering.{ordering_then, nat_cmp, is_gt}
use Rattle.std.specs.Cmp.Lexicographic.{slice_cmp}
use Rattle.std.specs.declared.cmp.Ordering.{Ordering}
use Rattle.dch_types.specs.Sums.{total}
use Rattle.dch_mac.specs.Asked.{Asked, starts, format_in}
use Rattle.dch_mac.specs.Offered.{given_by}
use Rattle.dch_mac.specs.Candidates.{IsCandidate}

-- the bits that bearers of a priority send on channel i, if it starts
abbrev pub carried_on : Asked → ℕ → ℕ → ℕ → ℕ
carried_on asked c priority i = if starts asked i
    then given_by asked i (format_in asked c i) priority * (format_in asked c i).size else 0

-- and on the first of all channels
abbrev pub carried_below : Asked → ℕ → ℕ → ℕ → ℕ
carried_below asked c priority channels = total (carried_on asked c priority) channels

-- the list of bits carried for priorities 1 to 8
unfoldable pub carried : Asked → ℕ → List ℕ
carried asked c = map (λ priority. carried_below asked c priority (length asked.side.channels)) (range_with_len 1 8)

-- the bits of the formats of combination c
abbrev pub bits_in : Asked → ℕ → ℕ → ℕ
bits_in asked c i = (format_in asked c i).number * (format_in asked c i).size

abbrev pub bits_of : Asked → ℕ → ℕ
bits_of asked c = total (bits_in asked c) (length asked.side.channels)

-- which of two combinations is better: the one whose list is greater, then the one with fewer bits in all, then the
-- earlier
abbrev pub compared : Asked → ℕ → ℕ → Ordering
compared asked a b = ordering_then (slice_cmp nat_cmp (carried asked a) (carried asked b))
    (ordering_then (nat_cmp (bits_of asked b) (bits_of asked a)) (nat_cmp b a))

-- combination c may be chosen, and none that may be chosen is better
pub record IsBest (asked : Asked) (c : ℕ) : Type 0 where
  pub candidate : IsCandidate asked c
  pub best : (other : ℕ) → IsCandidate asked other → is_gt (compared asked other c) ≡ false
