-- What a terminal lends to be read.
use Rattle.std.specs.Prelude.{Option, Some, None}
use Rattle.std.specs.Borrow.{Bor}
use Rattle.dch_accept.specs.Blocks.{Held}

-- the blocks of a TTI, as a value
abbrev pub held_of : Option (Bor Held) → Option Held
held_of None = None
held_of (Some held) = Some held.now
