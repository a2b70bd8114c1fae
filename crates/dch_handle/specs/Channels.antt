-- The transport channels of a configuration in both directions (TS 25.212 4.2), as contracts see what a handle holds.
use Rattle.std.specs.Prelude.{◌≡◌, ℕ, List}
use Rattle.dch_bits.specs.declared.bit.Bit.{Bit}
use Rattle.dch_types.specs.declared.channel.Dir.{Dir}
use Rattle.dch_types.specs.declared.channel.Dir.TheVariants.{Up, Down}
use Rattle.dch_types.specs.declared.config.Config.{Config}
use Rattle.dch_types.specs.Parts.{side_of}
use Rattle.dch_accept.specs.Blocks.{Held, HoldsTtis}
use Rattle.dch_accept.specs.Frames.{Frame, IsOpenedFor}
use Rattle.dch_accept.specs.Plans.{Planned}
use Rattle.dch_tti.specs.Loaded.{Loaded}
use Rattle.dch_tti.specs.RxFrames.{IsReaderOf, RxFrames}
use Rattle.dch_ulphy.specs.Frames.{IsFrame as IsUplinkFrame}
use Rattle.dch_ulphy.specs.Loaded.{IsLoaded as IsUplinkLoaded, IsTtiOf as IsUplinkTti}
use Rattle.dch_ulphy.specs.Read.{IsTtiRead as IsUplinkRead}
use Rattle.dch_dlphy.specs.Frames.{IsFrame as IsDownlinkFrame}
use Rattle.dch_dlphy.specs.Loaded.{IsLoaded as IsDownlinkLoaded, IsTtiOf as IsDownlinkTti}
use Rattle.dch_dlphy.specs.Read.{IsTtiRead as IsDownlinkRead}

-- the configuration with its plans, and for each direction what is loaded of its channels, and the radio frames that
-- were received last
pub record Trchs : Type 0 where
  pub planned : Planned
  pub up : List Loaded
  pub down : List Loaded
  pub heard_up : RxFrames
  pub heard_down : RxFrames

abbrev pub loaded_in : Trchs → Dir → List Loaded
loaded_in trchs Up = trchs.up
loaded_in trchs Down = trchs.down

abbrev pub heard_in : Trchs → Dir → RxFrames
heard_in trchs Up = trchs.heard_up
heard_in trchs Down = trchs.heard_down

-- they were opened for the configuration
pub record AreOpened (trchs : Trchs) : Type 0 where
  pub up : IsUplinkTti trchs.planned trchs.up
  pub down : IsDownlinkTti trchs.planned trchs.down
  pub heard_up : IsReaderOf trchs.planned Up trchs.heard_up
  pub heard_down : IsReaderOf trchs.planned Down trchs.heard_down

-- a radio frame and the blocks of a TTI have room for those of a direction
pub record IsRoomFor (config : Config) (dir : Dir) (frame : Frame) (blocks : Held) : Type 0 where
  pub opened : IsOpenedFor config dir frame
  pub holds : HoldsTtis (side_of config dir) blocks.room

-- the blocks of format f of channel i are loaded
abbrev pub IsLoaded : Planned → Dir → ℕ → ℕ → List Bit → Loaded → Type 0
IsLoaded planned Up i f blocks loaded = IsUplinkLoaded planned i f blocks loaded
IsLoaded planned Down i f blocks loaded = IsDownlinkLoaded planned i f blocks loaded

-- the radio frame of combination c in which loaded TTIs are sent
abbrev pub IsFrame : Planned → Dir → List Loaded → ℕ → ℕ → Frame → Type 0
IsFrame planned Up tti cfn c frame = IsUplinkFrame planned tti cfn c frame
IsFrame planned Down tti cfn c frame = IsDownlinkFrame planned tti cfn c frame

-- what is read of channel i
abbrev pub IsRead : Planned → Dir → RxFrames → ℕ → Held → Type 0
IsRead planned Up reader i held = IsUplinkRead planned reader i held
IsRead planned Down reader i held = IsDownlinkRead planned reader i held
