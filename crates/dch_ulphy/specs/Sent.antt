-- A TTI whose radio frames are kept just as they were written, and the copies of its bits.
use Rattle.std.specs.Prelude.{◌≡◌, ℕ, List, length}
use Rattle.dch_bits.specs.declared.bit.Bit.{Bit}
use Rattle.dch_types.specs.declared.channel.Dir.TheVariants.{Up}
use Rattle.dch_types.specs.Parts.{channel_at, format_at}
use Rattle.dch_collision.specs.Sequences.{IsLegal}
use Rattle.dch_accept.specs.Blocks.{bits_of}
use Rattle.dch_accept.specs.Plans.{Planned}
use Rattle.dch_tti.specs.RxFrames.{RxFrame, RxFrames}
use Rattle.dch_tti.specs.Sent.{AreSentFrames as AreSentFramesBy, IsSentFrame as IsSentFrameBy}
use Rattle.dch_tti.specs.Pushed.{AreSentAndPushed as AreSentAndPushedBy}
use Rattle.dch_tti.specs.Loaded.{Loaded}
use Rattle.dch_ulphy.specs.Frames.{multiplexed}
use Rattle.dch_ulphy.specs.Loaded.{IsLoaded}

-- a frame is kept as it was written in combination c, as frame n of the TTI of channel i, of which this was loaded
abbrev pub IsSentFrame : Planned → ℕ → ℕ → ℕ → Loaded → RxFrame → Type 0
IsSentFrame planned i n c loaded kept = IsSentFrameBy planned Up (multiplexed planned) i n c loaded kept

-- and so are all frames of the TTI, each in its combination of a sequence
abbrev pub AreSentFrames : Planned → RxFrames → ℕ → List ℕ → Loaded → Type 0
AreSentFrames planned reader i sequence loaded = AreSentFramesBy planned Up (multiplexed planned)
    reader i sequence loaded

-- blocks in format f were loaded for channel i, and all frames of the TTI are kept as they were written meanwhile
pub record IsSentTti (planned : Planned) (reader : RxFrames) (i f : ℕ) (sequence : List ℕ)
    (blocks : List Bit) : Type 0 where
  pub loaded : Loaded
  pub from : IsLoaded planned i f blocks loaded
  pub whole : length blocks ≡ bits_of (format_at (channel_at planned.config.uplink.side i) f)
  pub frames : AreSentFrames planned reader i sequence loaded

-- the kept radio frames of an uplink TTI are those that were written, in some sequence of TFCs that is legal for the
-- channel and the transport format, with these blocks loaded
pub record WasSent (planned : Planned) (reader : RxFrames) (i f : ℕ) (blocks : List Bit) : Type 0 where
  pub sequence : List ℕ
  pub legal : IsLegal planned.config.uplink.side i f sequence
  pub sent : IsSentTti planned reader i f sequence blocks

-- the frames of a TTI of channel i are taken one after another from its first CFN on, just as they were written in a
-- sequence of combinations, while this stayed loaded of the channel; reader n is what is kept before frame n
abbrev pub AreSentAndPushed : Planned → ℕ → ℕ → List ℕ → Loaded → (ℕ → RxFrames) → Type 0
AreSentAndPushed planned i first sequence loaded readers =
    AreSentAndPushedBy planned Up (multiplexed planned) i first sequence loaded readers
