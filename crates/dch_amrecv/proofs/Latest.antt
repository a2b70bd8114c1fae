-- The last MRW of a status.
use Rattle.std.proofs.Common.{◌≡◌, ◌<◌, ℕ, List, [], ◌∷◌, Option, Some, None, drop, length, slice_index_or, arith, refl, sym}
use Rattle.dch_am.specs.Moves.{later_of, move_in}
use Rattle.dch_rlcpdu.specs.Fields.{Field, NoMoreField, WindowField, AckField, ListField, BitmapField, MrwField, MrwAckField}
use Rattle.dch_rlcpdu.specs.Sufis.{sufi_of}
use Rattle.dch_amrecv.specs.Moves.{seen}

-- what was found, unless there is a later one
abbrev pub latest : Option (ℕ × ℕ) → Option (ℕ × ℕ) → Option (ℕ × ℕ)
latest found None = found
latest found (Some p) = Some p

latest_later : (found : Option (ℕ × ℕ)) (p : ℕ × ℕ) (o : Option (ℕ × ℕ)) → latest found (later_of p o) ≡ latest (Some p) o
latest_later found p None = refl
latest_later found p (Some q) = refl

pub latest_none : (o : Option (ℕ × ℕ)) → latest None o ≡ o
latest_none None = refl
latest_none (Some p) = refl

pub latest_seen : (found : Option (ℕ × ℕ)) (fields : List Field) → 0 < length fields → latest (seen found (sufi_of (slice_index_or fields 0 NoMoreField))) (move_in (drop 1 fields)) ≡ latest found (move_in fields)
latest_seen found [] l = absurd (omega arith)
latest_seen found (NoMoreField ∷ fields) l = refl
latest_seen found (WindowField size ∷ fields) l = refl
latest_seen found (AckField lsn ∷ fields) l = refl
latest_seen found (ListField pairs ∷ fields) l = refl
latest_seen found (BitmapField first bits ∷ fields) l = refl
latest_seen found (MrwField last n ∷ fields) l = sym (latest_later found (last, n) (move_in fields))
latest_seen found (MrwAckField n sn ∷ fields) l = refl
