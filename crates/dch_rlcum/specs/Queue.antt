-- How a sender keeps its SDUs, and where among them those behind some PDUs begin.
use Rattle.std.specs.Prelude.{◌≡◌, ◌-◌, ◌≤◌, ◌<◌, ℕ, List, [], Bool, true, length, slice_index_or, if◌then◌else◌}
use Rattle.dch_am.specs.Bodies.{sizes}
use Rattle.dch_am.specs.Cuts.{AllFull}
use Rattle.dch_txbuf.specs.declared.taken.Start.{Start}
use Rattle.dch_txbuf.specs.Cuts.{IsStart, left_at}
use Rattle.dch_rlcum.specs.Sending.{Units}

-- the units from a place on. Where an indicator is owed it is that of the one before
abbrev pub units_at : List (List ℕ) → Start → Bool → Units
units_at sdus start owed = record {
  lengths = sizes (left_at start sdus);
  sent = start.used;
  owed = if owed then length (slice_index_or sdus (start.sdu - 1) []) else 0;
}

-- a place behind some PDUs
pub record IsPlace (sdus : List (List ℕ)) (start : Start) (owed : Bool) : Type 0 where
  pub start_is : IsStart sdus start
  pub left : AllFull (left_at start sdus)
  pub owed_is : owed ≡ true → 0 < length (slice_index_or sdus (start.sdu - 1) [])

-- no unit is kept but those that are left and the one whose indicator is owed
pub record IsQueue (sdus : List (List ℕ)) (start : Start) (owed : Bool) : Type 0 where
  pub place : IsPlace sdus start owed
  pub first : start.sdu ≡ (if owed then 1 else 0)

-- a number of seven bits, and a size that a PDU may have
pub record IsFormat (sn pdu : ℕ) : Type 0 where
  pub number : sn < 128
  pub from : 3 ≤ pdu
  pub most : pdu ≤ 125
