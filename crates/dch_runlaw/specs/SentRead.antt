-- What is read of a TTI whose radio frames are kept just as they were written.
use Rattle.std.specs.Prelude.{◌≡◌, ℕ, List}
use Rattle.dch_bits.specs.declared.bit.Bit.{Bit}
use Rattle.dch_types.specs.declared.channel.Dir.{Dir}
use Rattle.dch_types.specs.Parts.{side_of}
use Rattle.dch_accept.specs.Blocks.{Held}
use Rattle.dch_accept.specs.Plans.{Planned}
use Rattle.dch_tti.specs.Received.{ArrivesAs}
use Rattle.dch_tti.specs.Formats.{IsBadFrame}
use Rattle.dch_tti.specs.RxFrames.{RxFrames}

-- no radio frame of channel i's TTI is bad; whatever is read of it has format f, and is just these blocks, all good
pub record IsReadAsSent (planned : Planned) (dir : Dir) (IsRead : RxFrames → ℕ → Held → Type 0) (reader : RxFrames)
    (i f : ℕ) (blocks : List Bit) : Type 0 where
  pub good : (n : ℕ) → ¬ IsBadFrame (side_of planned.config dir) reader i n
  pub number : (held : Held) → IsRead reader i held → held.format ≡ f
  pub arrives : (held : Held) → IsRead reader i held → ArrivesAs blocks held
