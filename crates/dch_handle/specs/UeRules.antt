-- The rules of a terminal behind a handle.
use Rattle.std.specs.Prelude.{◌≡◌, Bool, true, false, refl}
use Rattle.std.proofs.Common.{ap}
use Rattle.dch_node.specs.Values.{Output}
use Rattle.dch_ue.specs.Opened.{HasNext, IsNodeOf}
use Rattle.dch_ue.specs.Standing.{Represents, Shows}
use Rattle.dch_ue.specs.State.{Event, OfferedUnit, BlockedCombination, DownlinkFrame, Tick, Change, State, opened_state}
use Rattle.dch_ue.specs.Steps.{Steps}
use Rattle.dch_ue.specs.Values.{Node}
use Rattle.dch_handle.specs.NodeRules.{KeepsTime, NodeRules, cfn_after}

-- a radio frame passes with a tick
abbrev pub ue_passes : Event → Bool
ue_passes (OfferedUnit b octets bits) = false
ue_passes (BlockedCombination c on) = false
ue_passes (DownlinkFrame frame) = false
ue_passes Tick = true
ue_passes (Change planned) = false

abbrev pub ue_rules : NodeRules State Event Node
ue_rules = record {
  opened = opened_state;
  cfn = λ s. s.cfn;
  steps = Steps;
  change = Change;
  passes = ue_passes;
  is_opened = IsNodeOf;
  has_next = HasNext;
  represents = Represents;
  shows = Shows;
}

turns : (old new : State) (event : Event) (output : Output) → Steps old event new output
    → new.cfn ≡ cfn_after (ue_passes event) old.cfn
turns old new (OfferedUnit b octets bits) output step = ap (λ (s : State). s.cfn) step.state
turns old new (BlockedCombination c on) output step = ap (λ (s : State). s.cfn) step.0
turns old new (DownlinkFrame frame) output step = ap (λ (s : State). s.cfn) step.0
turns old new Tick output step = ap (λ (s : State). s.cfn) step.state
turns old new (Change planned) output step = ap (λ (s : State). s.cfn) step.state

pub ue_time : KeepsTime ue_rules
ue_time = record { opens_at = λ planned first. refl; turns = turns; unpassed = λ planned. refl }
