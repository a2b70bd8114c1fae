-- The rules of a Node B behind a handle.
use Rattle.std.specs.Prelude.{◌≡◌, Bool, true, false, refl}
use Rattle.std.proofs.Common.{ap, inl, inr}
use Rattle.dch_node.specs.Values.{Output}
use Rattle.dch_nodeb.specs.Opened.{HasNext, IsNodeOf}
use Rattle.dch_nodeb.specs.Standing.{Represents, Shows}
use Rattle.dch_nodeb.specs.State.{Event, IubFrame, DownlinkDue, UplinkFrame, Change, State, opened_state}
use Rattle.dch_nodeb.specs.Steps.{Steps}
use Rattle.dch_nodeb.specs.Values.{Node}
use Rattle.dch_handle.specs.NodeRules.{KeepsTime, NodeRules, cfn_after}

-- a radio frame passes where the uplink one comes, or is missing
abbrev pub node_b_passes : Event → Bool
node_b_passes (IubFrame set octets) = false
node_b_passes DownlinkDue = false
node_b_passes (UplinkFrame frame) = true
node_b_passes (Change planned) = false

abbrev pub node_b_rules : NodeRules State Event Node
node_b_rules = record {
  opened = opened_state;
  cfn = λ s. s.cfn;
  steps = Steps;
  change = Change;
  passes = node_b_passes;
  is_opened = IsNodeOf;
  has_next = HasNext;
  represents = Represents;
  shows = Shows;
}

turns : (old new : State) (event : Event) (output : Output) → Steps old event new output
    → new.cfn ≡ cfn_after (node_b_passes event) old.cfn
turns old new (IubFrame set octets) output (inl kept) = ap (λ (s : State). s.cfn) kept.state
turns old new (IubFrame set octets) output (inr refused) = ap (λ (s : State). s.cfn) refused.state
turns old new DownlinkDue output step = ap (λ (s : State). s.cfn) step.state
turns old new (UplinkFrame frame) output step = ap (λ (s : State). s.cfn) step.state
turns old new (Change planned) output step = ap (λ (s : State). s.cfn) step.state

pub node_b_time : KeepsTime node_b_rules
node_b_time = record { opens_at = λ planned first. refl; turns = turns; unpassed = λ planned. refl }
