-- What half octets say as a list of fields (TS 25.322 9.2.2.11).
use Rattle.std.specs.Prelude.{◌+◌, ◌-◌, ◌*◌, ◌/◌, ◌%◌, ◌&&◌, ◌||◌, ◌==◌, ℕ, zero, suc, List, [], ◌∷◌, Bool, true, not, Option, Some, None, length, drop, slice_index, nat_lt, if◌then◌else◌}
use Rattle.dch_rlcpdu.specs.Fields.{Field, NoMoreField, WindowField, AckField, ListField, BitmapField, MrwField, MrwAckField}
use Rattle.dch_rlcpdu.specs.Halves.{halves, half_bit, number_at}

-- how many half octets a field of this type has, with this half octet behind the type, which is its LENGTH where it has
-- one: 0 where no such field is known, and where a LIST or an MRW has a LENGTH of 0
abbrev pub size_by : ℕ → ℕ → ℕ
size_by kind count =
    if kind == 0 then 1 else
    if kind == 1 || kind == 2 then 4 else
    if kind == 3 then (if count == 0 then 0 else 2 + 4 * count) else
    if kind == 4 then 7 + 2 * count else
    if kind == 6 then (if count == 0 then 0 else 3 + 3 * count) else
    if kind == 7 then 5 else 0

-- how many the field at the front has
abbrev pub size_of : List ℕ → ℕ
size_of ns = size_by (slice_index ns 0) (slice_index ns 1)

-- so many pairs of a number of twelve bits and a half octet
abbrev pub pairs_from : ℕ → List ℕ → List (ℕ × ℕ)
pairs_from zero ns = []
pairs_from (suc k) ns = (number_at ns 0, slice_index ns 3) ∷ pairs_from k (drop 4 ns)

-- so many bits from a place on
abbrev pub bits_from : ℕ → List ℕ → ℕ → List Bool
bits_from zero ns j = []
bits_from (suc k) ns j = half_bit (slice_index ns (j / 4)) (j % 4) ∷ bits_from k ns (j + 1)

abbrev pub field_by : ℕ → ℕ → List ℕ → Field
field_by kind count ns =
    if kind == 0 then NoMoreField else
    if kind == 1 then WindowField (number_at ns 1) else
    if kind == 2 then AckField (number_at ns 1) else
    if kind == 3 then ListField (pairs_from count (drop 2 ns)) else
    if kind == 4 then BitmapField (number_at ns 2) (bits_from (8 + 8 * count) (drop 5 ns) 0) else
    if kind == 6 then MrwField (number_at ns (3 * count - 1)) (slice_index ns (3 * count + 2)) else
    MrwAckField count (number_at ns 2)

-- the field at the front. Of the numbers of an MRW the last one acts
abbrev pub field_of : List ℕ → Field
field_of ns = field_by (slice_index ns 0) (slice_index ns 1) ns

-- no known field stands whole at the front
abbrev pub is_cut : List ℕ → Bool
is_cut ns = size_of ns == 0 || nat_lt (length ns) (size_of ns)

abbrev pub whole_size : List ℕ → Option ℕ
whole_size ns = if is_cut ns then None else Some (size_of ns)

-- the field at the front ends the list: NO_MORE or ACK
abbrev pub is_last : List ℕ → Bool
is_last ns = slice_index ns 0 == 0 || slice_index ns 0 == 2

abbrev pub with_field : Field → Option (List Field) → Option (List Field)
with_field f None = None
with_field f (Some fs) = Some (f ∷ fs)

-- the fields from the front on, of which there are at most so many. What follows the last one isn't looked at
abbrev pub fields_of : ℕ → List ℕ → Option (List Field)
fields_of zero ns = None
fields_of (suc k) ns =
    if is_cut ns then None else
    if is_last ns then Some (field_of ns ∷ []) else
    with_field (field_of ns) (fields_of k (drop (size_of ns) ns))

-- what octets say, whose first half octet isn't looked at. Each field has at least one half octet
abbrev pub status_of : List ℕ → Option (List Field)
status_of octets = fields_of (2 * length octets) (drop 1 (halves octets))

-- so many fields from the front on, and that each of them stands whole
abbrev pub listed : ℕ → List ℕ → List Field
listed zero ns = []
listed (suc k) ns = field_of ns ∷ listed k (drop (size_of ns) ns)

abbrev pub are_whole : ℕ → List ℕ → Bool
are_whole zero ns = true
are_whole (suc k) ns = not (is_cut ns) && are_whole k (drop (size_of ns) ns)

-- the fields behind the first half octet, if they were counted
abbrev pub counted : List ℕ → Option ℕ → Option (List Field)
counted octets None = None
counted octets (Some k) = Some (listed k (drop 1 (halves octets)))
