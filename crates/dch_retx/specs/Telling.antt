-- What a status tells as a whole, field by field.
use Rattle.std.specs.Prelude.{◌≡◌, ◌≤◌, ◌++◌, ◌||◌, ℕ, List, Bool, Option, Some, None, min, unwrap_or}
use Rattle.dch_rlcpdu.specs.declared.sufi.Sufi.{Sufi}
use Rattle.dch_rlcpdu.specs.declared.sufi.Sufi.TheVariants.{NoMore, Window, Ack, List as Runs, Bitmap, Mrw, MrwAck}
use Rattle.dch_retx.specs.declared.buffer.Running.{Running}
use Rattle.dch_retx.specs.StatusItems.{StatusItem}
use Rattle.dch_retx.specs.declared.tell.Told.{Told}
use Rattle.dch_retx.specs.StatusItem.{below_said, ending_of, ends_at, limit_in, reports_some}

-- a status tells this
pub record IsTold (told : Told) (window first count : ℕ) (running : Option Running)
    (said : List StatusItem) : Type 0 where
  pub below : unwrap_or told.below 0 ≡ below_said first said
  pub reports : told.reports ≡ reports_some said
  pub ending : told.ending ≡ ending_of first count running said
  pub limit_is : told.limit ≡ limit_in window first count said

-- the numbers of a field are told, whatever is said behind it
pub record IsPassed (now told : Told) (window first count : ℕ) (said : List StatusItem) : Type 0 where
  pub below : (rest : List StatusItem) → unwrap_or told.below (below_said first (said ++ rest))
      ≡ unwrap_or now.below (below_said first rest)
  pub reports : (rest : List StatusItem) → (told.reports || reports_some (said ++ rest))
      ≡ (now.reports || reports_some rest)
  pub ending : now.ending ≡ told.ending
  pub small : now.limit ≤ told.limit
  pub limit_is : (rest : List StatusItem) → min told.limit (limit_in window first count (said ++ rest))
      ≡ min now.limit (limit_in window first count rest)

-- so it is with a field that has no LSN
abbrev pub told_more : Told → Bool → ℕ → Told
told_more told reports limit = record told { reports = told.reports || reports; limit = min told.limit limit }

-- the place below which a field acknowledges all PDUs, where it is an MRW_ACK that ends the discard at a place and with
-- an indicator
abbrev pub ends_with_indicator : ℕ → ℕ → ℕ → ℕ → Sufi → Option ℕ
ends_with_indicator first count k indicator NoMore = None
ends_with_indicator first count k indicator (Window size) = None
ends_with_indicator first count k indicator (Ack lsn) = None
ends_with_indicator first count k indicator (Runs pairs) = None
ends_with_indicator first count k indicator (Bitmap from bits) = None
ends_with_indicator first count k indicator (Mrw last n) = None
ends_with_indicator first count k indicator (MrwAck n sn) = ends_at first count k indicator n sn

-- the same for the discard that runs
abbrev pub ends_by : ℕ → ℕ → Option Running → Sufi → Option ℕ
ends_by first count None field = None
ends_by first count (Some r) field = ends_with_indicator first count r.at r.n field
