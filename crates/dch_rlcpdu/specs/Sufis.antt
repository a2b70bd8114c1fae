-- Fields as they are handed out, with counts in place of lists.
use Rattle.std.specs.Prelude.{◌≤◌, ◌<◌, ℕ, length}
use Rattle.dch_rlcpdu.specs.Fields.{Field, NoMoreField, WindowField, AckField, ListField, BitmapField, MrwField, MrwAckField}
use Rattle.dch_rlcpdu.specs.declared.sufi.Sufi.{Sufi}
use Rattle.dch_rlcpdu.specs.declared.sufi.Sufi.TheVariants.{NoMore, Window, Ack, List as Runs, Bitmap, Mrw, MrwAck}

abbrev pub sufi_of : Field → Sufi
sufi_of NoMoreField = NoMore
sufi_of (WindowField size) = Window size
sufi_of (AckField lsn) = Ack lsn
sufi_of (ListField pairs) = Runs (length pairs)
sufi_of (BitmapField first bits) = Bitmap first (length bits)
sufi_of (MrwField last n) = Mrw last n
sufi_of (MrwAckField n sn) = MrwAck n sn

-- how many pairs and how many bits it announces
abbrev pub pairs_in : Sufi → ℕ
pairs_in NoMore = 0
pairs_in (Window size) = 0
pairs_in (Ack lsn) = 0
pairs_in (Runs pairs) = pairs
pairs_in (Bitmap first bits) = 0
pairs_in (Mrw last n) = 0
pairs_in (MrwAck n sn) = 0

abbrev pub bits_in : Sufi → ℕ
bits_in NoMore = 0
bits_in (Window size) = 0
bits_in (Ack lsn) = 0
bits_in (Runs pairs) = 0
bits_in (Bitmap first bits) = bits
bits_in (Mrw last n) = 0
bits_in (MrwAck n sn) = 0

-- its numbers have twelve bits, and its counts are those of a status
abbrev pub IsInRange : Sufi → Type 0
IsInRange NoMore = Unit {0}
IsInRange (Window size) = size < 4096
IsInRange (Ack lsn) = lsn < 4096
IsInRange (Runs pairs) = pairs < 16
IsInRange (Bitmap first bits) = (first < 4096) × (bits ≤ 128)
IsInRange (Mrw last n) = (last < 4096) × (n < 16)
IsInRange (MrwAck n sn) = (n < 16) × (sn < 4096)
