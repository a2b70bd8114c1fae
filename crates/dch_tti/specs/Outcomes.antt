-- What reading the TTI of a channel gives. A direction tells what it reads of kept radio frames for a channel.
use Rattle.std.specs.Prelude.{◌≡◌, ◌<◌, ℕ, List, length}
use Rattle.dch_bits.specs.declared.bit.Bit.{Bit}
use Rattle.dch_types.specs.declared.channel.Dir.{Dir}
use Rattle.dch_types.specs.declared.channel.Side.{Side}
use Rattle.dch_types.specs.Parts.{side_of}
use Rattle.dch_accept.specs.Blocks.{Held}
use Rattle.dch_accept.specs.Plans.{Planned}
use Rattle.dch_tti.specs.Received.{ArrivesAs}
use Rattle.dch_tti.specs.declared.outcome.TtiOutcome.{TtiOutcome}
use Rattle.dch_tti.specs.declared.outcome.TtiOutcome.TheVariants.{Blocks, BadFrame}
use Rattle.dch_tti.specs.Formats.{AllGive, IsBadFrame}
use Rattle.dch_tti.specs.RxFrames.{RxFrames}

-- the blocks of the TTI, or its first bad frame, which leaves the blocks as they were
abbrev pub IsOutcome : Side → (RxFrames → ℕ → Held → Type 0) → RxFrames → ℕ → Held → TtiOutcome → Held → Type 0
IsOutcome side IsRead reader i before Blocks after = IsRead reader i after
IsOutcome side IsRead reader i before (BadFrame n) after = IsBadFrame side reader i n × (after ≡ before)

-- just these blocks are read, in the format in which they were sent, and all are good
pub record IsSentBack (format : ℕ) (blocks : List Bit) (outcome : TtiOutcome) (held : Held) : Type 0 where
  pub read : outcome ≡ Blocks
  pub number : held.format ≡ format
  pub arrives : ArrivesAs blocks held

-- where blocks of a channel were sent in a format, and their radio frames are kept in their combinations, all of these
-- give the channel that format
abbrev pub GivesItsFormat : Dir → (Planned → RxFrames → ℕ → ℕ → List Bit → Type 0) → Type 0
GivesItsFormat dir Sent =
    (planned : Planned) (reader : RxFrames) (i f : ℕ) (blocks : List Bit) → Sent planned reader i f blocks
    → i < length (side_of planned.config dir).channels
    → AllGive (side_of planned.config dir) reader i f
