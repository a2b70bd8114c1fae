-- The pieces of an input, of which at most so many bytes may come.
use Rattle.std.specs.Prelude.{◌≡◌, ◌≤◌, ◌+◌, ℕ, List, length, take, Result, Ok, Err}
use Rattle.std.specs.Io.KnownBytes.{Consumes, IsAtEnd, Keeps}
use Rattle.dch_io.specs.Ends.{End, Fails}
use Rattle.dch_io.specs.declared.feed.ReadStop.{ReadStop}
use Rattle.dch_io.specs.declared.feed.ReadStop.TheVariants.{Failed, TooLong}

-- the most bytes that a run takes
abbrev pub LIMIT : ℕ
LIMIT = 67108864

-- the most bytes of a piece
abbrev pub PIECE : ℕ
PIECE = 65536

-- the next piece after so many bytes
pub record IsPiece (source : End) (count : ℕ) (piece : List ℕ) : Type 0 where
  pub takes : Consumes source.before source.now piece
  pub small : length piece ≤ PIECE
  pub within : count + length piece ≤ LIMIT
  pub end : length piece ≡ 0 → IsAtEnd source.now

-- just one byte more than may come
pub record IsOneMore (source : End) (count : ℕ) : Type 0 where
  pub full : count ≡ LIMIT
  pub piece : List ℕ
  pub takes : Consumes source.before source.now piece
  pub one : length piece ≡ 1

-- what reading on after so many bytes does, where the room has these bytes afterwards
abbrev pub ReadsOn : End → ℕ → List ℕ → Result ℕ ReadStop → Type 0
ReadsOn source count room (Ok read) = IsPiece source count (take read room) × (read ≤ length room)
ReadsOn source count room (Err Failed) = Fails source × Keeps source.before source.now
ReadsOn source count room (Err TooLong) = IsOneMore source count
