-- Two states of a Node B that say the same.
use Rattle.std.specs.Prelude.{◌≡◌, ◌<◌, ℕ, Option, Some, None, length}
use Rattle.dch_types.specs.declared.channel.Side.{Side}
use Rattle.dch_accept.specs.Plans.{IsPlanned}
use Rattle.dch_iub.specs.Shape.{ForSet}
use Rattle.dch_nodeb.specs.State.{Change, DownlinkDue, DownlinkIubFrame, Event, IubFrame, State, UplinkFrame}

-- another frame is kept for the set, with the same CFN and the same blocks of each of its channels
pub record KeepsAgain (side : Side) (set : ℕ) (frame : DownlinkIubFrame)
    (other : Option DownlinkIubFrame) : Type 0 where
  pub again : DownlinkIubFrame
  pub is : other ≡ Some again
  pub cfn : again.cfn ≡ frame.cfn
  pub blocks : ForSet side set (λ i. again.blocks i ≡ frame.blocks i)

-- the same is kept for a set
abbrev pub KeepsSame : Side → ℕ → Option DownlinkIubFrame → Option DownlinkIubFrame → Type 0
KeepsSame side set None other = other ≡ None
KeepsSame side set (Some frame) other = KeepsAgain side set frame other

-- the states agree in the configuration, in the CFN, in what is kept for each set, in the blocks of each downlink
-- channel, and in the uplink radio frames
pub record IsSameState (state other : State) : Type 0 where
  pub planned : other.planned ≡ state.planned
  pub cfn : other.cfn ≡ state.cfn
  pub kept : (s : ℕ) → KeepsSame state.planned.config.downlink.side s (state.kept s) (other.kept s)
  pub given : (i : ℕ) → i < length state.planned.config.downlink.side.channels → other.given i ≡ state.given i
  pub frames : (k : ℕ) → other.frames k ≡ state.frames k

-- a configuration that becomes active is one that can be accepted
abbrev pub BringsPlanned : Event → Type 0
BringsPlanned (IubFrame set octets) = Unit {0}
BringsPlanned DownlinkDue = Unit {0}
BringsPlanned (UplinkFrame frame) = Unit {0}
BringsPlanned (Change planned) = IsPlanned planned
