-- Readings of a terminal that say the same, and states.
use Rattle.std.specs.Prelude.{◌≡◌, ℕ}
use Rattle.dch_accept.specs.Blocks.{Held}
use Rattle.dch_accept.specs.Plans.{IsPlanned}
use Rattle.dch_layer2.specs.Reading.{Bad, Nothing, Read, Reading}
use Rattle.dch_layer2.specs.SameLayers.{IsSameLayer}
use Rattle.dch_ue.specs.State.{BlockedCombination, Change, DownlinkFrame, Event, OfferedUnit, State, Tick}

-- the same blocks are read, with the same marks, in whatever room
pub record ReadsAgain (held : Held) (other : Reading) : Type 0 where
  pub again : Held
  pub is : other ≡ Read again
  pub blocks : again ≡ record held { room = again.room }

-- two readings of a channel say the same: the same blocks with the same CRCIs, nothing, or the same bad radio frame
abbrev pub ReadsSame : Reading → Reading → Type 0
ReadsSame Nothing other = other ≡ Nothing
ReadsSame (Read held) other = ReadsAgain held other
ReadsSame (Bad frame) other = other ≡ Bad frame

-- the states agree in the configuration, in the CFN, in the radio frames that came, and in layer 2
pub record IsSameState (state other : State) : Type 0 where
  pub planned : other.planned ≡ state.planned
  pub cfn : other.cfn ≡ state.cfn
  pub came : other.came ≡ state.came
  pub frames : (k : ℕ) → other.frames k ≡ state.frames k
  pub layer : IsSameLayer state.layer other.layer

-- a configuration that becomes active is one that can be accepted
abbrev pub BringsPlanned : Event → Type 0
BringsPlanned (OfferedUnit b octets bits) = Unit {0}
BringsPlanned (BlockedCombination c on) = Unit {0}
BringsPlanned (DownlinkFrame frame) = Unit {0}
BringsPlanned Tick = Unit {0}
BringsPlanned (Change planned) = IsPlanned planned
