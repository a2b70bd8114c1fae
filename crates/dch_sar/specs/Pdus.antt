-- The list of PDUs of a sequence of units (TS 25.322 9.2.2.8). Octets are counted along the joined units. Of each PDU
-- its cut is known: how many units had been accepted when it was first built. It carries octets of these alone.
use Rattle.std.specs.Prelude.{◌≡◌, ◌+◌, ◌-◌, ◌≤◌, ◌++◌, ◌&&◌, ◌||◌, ◌==◌, ℕ, zero, suc, List, [], ◌∷◌, Bool, true, false, not, length, take, map, filter, nat_lt, nat_le, if◌then◌else◌}
use Rattle.dch_sar.specs.Filling.{total, ends_before, is_end}

-- where a PDU begins, and whether the end there has still to be marked, by the indicator 0
pub record Front : Type 0 where
  pub from : ℕ
  pub owed : Bool

-- before the first PDU
abbrev pub first_front : Front
first_front = record { from = 0; owed = false }

-- a unit starts at the place, where the row begins at another
abbrev pub is_start : ℕ → List ℕ → ℕ → Bool
is_start at [] o = false
is_start at (n ∷ ns) o = (at == o) || is_start (at + n) ns o

-- the indicator that stands first: 0 for an end that has still to be marked, 124 where starts are marked and a unit
-- starts
abbrev pub lead : Bool → List ℕ → Front → List ℕ
lead starts ns f = if f.owed then 0 ∷ [] else (if starts && is_start 0 ns f.from then 124 ∷ [] else [])

-- the ends strictly between two places
abbrev pub ends_between : List ℕ → ℕ → ℕ → List ℕ
ends_between ns from o = filter (λ e. nat_lt from e) (ends_before 0 ns o)

-- what the octets up to a place cost: the indicator that stands first, themselves, and an indicator for each end
-- strictly between
abbrev pub cost_to : Bool → List ℕ → Front → ℕ → ℕ
cost_to starts ns f o = length (lead starts ns f) + (o - f.from) + length (ends_between ns f.from o)

-- the greatest number up to a bound that passes the test
abbrev pub greatest : (ℕ → Bool) → ℕ → ℕ
greatest passes zero = 0
greatest passes (suc n) = if passes (suc n) then suc n else greatest passes n

-- the PDU carries the octets up to here: the most that cost no more than its octets behind the fixed header
abbrev pub reach : ℕ → Bool → List ℕ → Front → ℕ
reach size starts ns f = greatest (λ o. nat_le (cost_to starts ns f o) size) (total ns)

-- the last octet that it carries ends a unit
abbrev pub ends_unit : ℕ → Bool → List ℕ → Front → Bool
ends_unit size starts ns f = nat_lt f.from (reach size starts ns f) && is_end 0 ns (reach size starts ns f)

-- and room is left to mark that end
abbrev pub has_room : ℕ → Bool → List ℕ → Front → Bool
has_room size starts ns f = nat_lt (cost_to starts ns f (reach size starts ns f)) size

-- the ends that it marks
abbrev pub ends_marked : ℕ → Bool → List ℕ → Front → List ℕ
ends_marked size starts ns f = ends_between ns f.from (reach size starts ns f)
    ++ (if ends_unit size starts ns f && has_room size starts ns f then reach size starts ns f ∷ [] else [])

-- where the next PDU begins
abbrev pub next_front : ℕ → Bool → List ℕ → Front → Front
next_front size starts ns f = record {
  from = reach size starts ns f;
  owed = ends_unit size starts ns f && not (has_room size starts ns f);
}

-- the padding indicator, where octets are left behind so many
abbrev pub padding : ℕ → ℕ → List ℕ
padding size spent = if nat_lt spent size then 127 ∷ [] else []

-- a PDU: the special indicator that stands first, the ends that it marks, the padding indicator, and the octets from
-- one place to another
pub record Pdu : Type 0 where
  pub first : List ℕ
  pub ends : List ℕ
  pub last : List ℕ
  pub from : ℕ
  pub to : ℕ

-- its indicators. That of an end counts from the PDU's first octet
abbrev pub indicators_in : Pdu → List ℕ
indicators_in p = p.first ++ (map (λ e. e - p.from) p.ends ++ p.last)

-- the PDU that begins there
abbrev pub pdu_at : ℕ → Bool → List ℕ → Front → Pdu
pdu_at size starts ns f = record {
  first = lead starts ns f;
  ends = ends_marked size starts ns f;
  last = padding size (length (lead starts ns f) + (reach size starts ns f - f.from) +
      length (ends_marked size starts ns f));
  from = f.from;
  to = reach size starts ns f;
}

-- there is a PDU only where octets are left or an end has still to be marked
abbrev pub has_pdu : List ℕ → Front → Bool
has_pdu ns f = nat_lt f.from (total ns) || f.owed

-- the PDUs with these cuts of units of these lengths, from a place on
abbrev pub pdus_from : ℕ → Bool → List ℕ → Front → List ℕ → List Pdu
pdus_from size starts ns f [] = []
pdus_from size starts ns f (cut ∷ cuts) = pdu_at size starts (take cut ns) f ∷ pdus_from size starts ns
    (next_front size starts (take cut ns) f) cuts

abbrev pub pdus : ℕ → Bool → List ℕ → List ℕ → List Pdu
pdus size starts ns cuts = pdus_from size starts ns first_front cuts

-- where the PDU behind them begins
abbrev pub front_from : ℕ → Bool → List ℕ → Front → List ℕ → Front
front_from size starts ns f [] = f
front_from size starts ns f (cut ∷ cuts) = front_from size starts ns (next_front size starts (take cut ns) f) cuts

abbrev pub front : ℕ → Bool → List ℕ → List ℕ → Front
front size starts ns cuts = front_from size starts ns first_front cuts

-- cuts may grow from PDU to PDU, up to the number of units. There is a PDU for each
abbrev pub AreCuts : ℕ → Bool → List ℕ → ℕ → Front → List ℕ → Type 0
AreCuts size starts ns low f [] = low ≤ length ns
AreCuts size starts ns low f (cut ∷ cuts) = (low ≤ cut)
    × ((has_pdu (take cut ns) f ≡ true) × AreCuts size starts ns cut (next_front size starts (take cut ns) f) cuts)

-- what units of these lengths have left behind so many octets
abbrev pub left_from : ℕ → List ℕ → List ℕ
left_from o [] = []
left_from o (n ∷ ns) = if nat_lt o n then (n - o) ∷ ns else left_from (o - n) ns

-- how many octets of the unit in progress these are, where so many of the first stood before
abbrev pub begun_by : ℕ → ℕ → List ℕ → ℕ
begun_by sent o [] = 0
begun_by sent o (n ∷ ns) = if nat_lt o n then sent + o else begun_by 0 (o - n) ns

-- the size of the unit that ends there, or 0, where so many octets of the first stood before
abbrev pub ended_at : ℕ → ℕ → List ℕ → ℕ
ended_at sent o [] = 0
ended_at sent o (n ∷ ns) = if o == n then sent + n else ended_at 0 (o - n) ns
