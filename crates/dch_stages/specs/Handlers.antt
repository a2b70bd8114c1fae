-- What the handler has, and the states that it stands for.
use Rattle.std.specs.Prelude.{◌≡◌, ◌<◌, ◌≤◌, ℕ, List, Option, Some, None, IfSome, length, slice_index_or}
use Rattle.dch_types.specs.declared.channel.Dir.{Dir}
use Rattle.dch_types.specs.declared.channel.Dir.TheVariants.{Up, Down}
use Rattle.dch_types.specs.declared.config.Config.{Config}
use Rattle.dch_types.specs.Parts.{channel_at, format_at, side_of}
use Rattle.dch_accept.specs.Frames.{IsOpenedFor, most_cells}
use Rattle.dch_accept.specs.Plans.{Planned}
use Rattle.dch_tti.specs.Loaded.{AreFormats, Loaded, loaded_at}
use Rattle.dch_ulphy.specs.Loaded.{IsTtiOf as IsUplinkTti}
use Rattle.dch_dlphy.specs.Loaded.{IsTtiOf as IsDownlinkTti}
use Rattle.dch_stages.specs.Coded.{AreCut}
use Rattle.dch_stages.specs.Answers.{amount_of}
use Rattle.dch_stages.specs.Rules.{Asked, Given, State, format_given, nothing, of_tti, radio_frame, tti}
use Rattle.dch_stages.specs.Shows.{IsLoaded}
use Rattle.dch_stages.specs.declared.frame_room.FrameRoom.{FrameRoom}
use Rattle.dch_stages.specs.declared.handler.StagesHandler.{StagesHandler}
use Rattle.dch_stages.specs.declared.rooms.Rooms.{Rooms}
use Rattle.dch_stages.specs.declared.rooms.TheConstants.{MOST_BITS, MOST_CELLS}
use Rattle.dch_stages.specs.declared.showing.Asking.{Asking}
use Rattle.dch_stages.specs.declared.showing.Asking.TheVariants.{Nothing, Tti, Frame, Bits}
use Rattle.dch_stages.specs.declared.showing.Showing.{Showing}

-- room for the radio frames of a direction
pub record HasRoom (config : Config) (dir : Dir) (room : FrameRoom) : Type 0 where
  pub cells : most_cells config dir ≤ length room.cells.items
  pub frame : IsOpenedFor config dir room.frame

-- room for all that is shown
pub record HaveRooms (config : Config) (rooms : Rooms) : Type 0 where
  pub bits : length rooms.bits.items ≡ MOST_BITS
  pub space : length rooms.space.items ≡ MOST_BITS
  pub cells : length rooms.cells.items ≡ MOST_CELLS
  pub up : HasRoom config Up rooms.up
  pub down : HasRoom config Down rooms.down

-- the format that is loaded of channel i, if one is
abbrev pub format_in : List (Option ℕ) → ℕ → Option ℕ
format_in formats i = slice_index_or formats i None

-- what is loaded in a direction, and of which formats
abbrev pub tti_in : Showing → Dir → List Loaded
tti_in showing Up = showing.up.tti
tti_in showing Down = showing.down.tti

abbrev pub formats_in : Showing → Dir → List (Option ℕ)
formats_in showing Up = showing.up.loads.formats.items
formats_in showing Down = showing.down.loads.formats.items

-- the formats are those that were loaded
pub record AreLoads (planned : Planned) (dir : Dir) (formats : List (Option ℕ)) (tti : List Loaded) : Type 0 where
  pub all : length formats ≡ length (side_of planned.config dir).channels
  pub each : (i : ℕ) → i < length (side_of planned.config dir).channels →
      IfSome (format_in formats i) (λ f. (loaded_at tti i).format ≡ Some f)
  pub there : (i : ℕ) → i < length (side_of planned.config dir).channels →
      IfSome (format_in formats i) (λ f. f < length (channel_at (side_of planned.config dir) i).formats)

-- what was asked for can be shown
abbrev pub CanShow : Showing → Asking → Type 0
CanShow showing Nothing = Unit {0}
CanShow showing (Tti dir i f) =
    let side = side_of showing.accepted.config dir in
    (i < length side.channels) × ((f < length (channel_at side i).formats) ×
    (AreCut (channel_at side i) (format_at (channel_at side i) f) showing.stages ×
    ((loaded_at (tti_in showing dir) i).format ≡ Some f)))
CanShow showing (Frame dir at) =
    let side = side_of showing.accepted.config dir in
    (at.combination < length side.combinations) × AreFormats side at.combination (tti_in showing dir)
CanShow showing (Bits question at n) =
    let side = side_of showing.accepted.config at.dir in
    (at.channel < length side.channels) × ((at.format < length (channel_at side at.channel).formats) ×
    (n < amount_of showing.accepted question at.dir at.channel at.format))

pub record IsShowing (showing : Showing) : Type 0 where
  pub up : IsUplinkTti showing.accepted showing.up.tti
  pub down : IsDownlinkTti showing.accepted showing.down.tti
  pub up_loads : AreLoads showing.accepted Up showing.up.loads.formats.items showing.up.tti
  pub down_loads : AreLoads showing.accepted Down showing.down.loads.formats.items showing.down.tti
  pub stages : showing.stages.room ≡ MOST_BITS
  pub asked : CanShow showing showing.asked

-- what was asked for
abbrev pub asks : Showing → Asking → Asked
asks showing Nothing = nothing
asks showing (Tti dir i f) = tti dir i f showing.stages.joined (loaded_at (tti_in showing dir) i)
asks showing (Frame dir at) = radio_frame dir (tti_in showing dir) at.cfn at.combination
asks showing (Bits question at n) = of_tti question at.dir at.channel at.format n

-- what is loaded of a direction is what was given of it
pub record AreKept (planned : Planned) (dir : Dir) (given : ℕ → Option Given) (known : List (Option ℕ))
    (tti : List Loaded) : Type 0 where
  pub formats : (i : ℕ) → i < length (side_of planned.config dir).channels → format_given (given i) ≡ format_in known i
  pub loaded : (i : ℕ) → i < length (side_of planned.config dir).channels →
      IfSome (given i) (λ g. IsLoaded planned dir i g.format g.bits (loaded_at tti i))

-- a handler stands for this state
pub record Represents (state : State) (h : StagesHandler) : Type 0 where
  pub planned : state.planned ≡ h.showing.accepted
  pub up : AreKept h.showing.accepted Up state.up h.showing.up.loads.formats.items h.showing.up.tti
  pub down : AreKept h.showing.accepted Down state.down h.showing.down.loads.formats.items h.showing.down.tti
  pub up_cfn : state.up_cfn ≡ h.showing.up.loads.cfn
  pub down_cfn : state.down_cfn ≡ h.showing.down.loads.cfn

-- what a handler keeps at any time: it stands for some state
pub record IsReady (h : StagesHandler) : Type 0 where
  pub showing : IsShowing h.showing
  pub rooms : HaveRooms h.showing.accepted.config h.rooms
  pub state : State
  pub stands : Represents state h
