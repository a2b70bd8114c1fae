-- The fields of a status that a receiver looks at (TS 25.322 9.2.2.11).
use Rattle.std.specs.Prelude.{ℕ, Option, Some}
use Rattle.dch_rlcpdu.specs.declared.sufi.Sufi.{Sufi}
use Rattle.dch_rlcpdu.specs.declared.sufi.Sufi.TheVariants.{NoMore, Window, Ack, List as Runs, Bitmap, Mrw, MrwAck}

-- a field more is looked at
abbrev pub seen : Option (ℕ × ℕ) → Sufi → Option (ℕ × ℕ)
seen found NoMore = found
seen found (Window size) = found
seen found (Ack lsn) = found
seen found (Runs pairs) = found
seen found (Bitmap first bits) = found
seen found (Mrw last n) = Some (last, n)
seen found (MrwAck n sn) = found
