-- What a trip knows of the channels that are loaded, and that its parts fit a configuration.
use Rattle.std.specs.Prelude.{◌≡◌, ◌≤◌, ℕ, List, Option, Some, None, length, slice_index_or}
use Rattle.dch_types.specs.declared.channel.Dir.{Dir}
use Rattle.dch_types.specs.Parts.{side_of}
use Rattle.dch_accept.specs.Blocks.{HoldsTtis}
use Rattle.dch_accept.specs.Frames.{IsOpenedFor}
use Rattle.dch_accept.specs.Plans.{Planned}
use Rattle.dch_tti.specs.Loaded.{Loaded, loaded_at}
use Rattle.dch_bench.specs.declared.round_trip.RoundTrip.{RoundTrip}

-- each format that is noted was loaded
abbrev pub AreNoted : List Loaded → List (Option ℕ) → Type 0
AreNoted tti noted = (i f : ℕ) → slice_index_or noted i None ≡ Some f → (loaded_at tti i).format ≡ Some f

-- all parts of a trip were opened for the configuration
pub record IsTripOf {E : Type 0} (dir : Dir) (opened : Planned → E → Type 0) (loaded : E → List Loaded)
    (planned : Planned) (trip : RoundTrip E) : Type 0 where
  pub ends : opened planned trip.ends
  pub noted : AreNoted (loaded trip.ends) trip.noted
  pub sent : IsOpenedFor planned.config dir trip.sent
  pub fits : length trip.sent.cells ≤ trip.sent.room
  pub received : IsOpenedFor planned.config dir trip.received
  pub given : HoldsTtis (side_of planned.config dir) trip.given.room
  pub read : HoldsTtis (side_of planned.config dir) trip.read.room
