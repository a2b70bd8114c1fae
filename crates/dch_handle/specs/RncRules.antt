-- The rules of a network controller behind a handle.
use Rattle.std.specs.Prelude.{◌≡◌, Bool, true, false, refl}
use Rattle.std.proofs.Common.{ap, inl, inr}
use Rattle.dch_node.specs.Values.{Output}
use Rattle.dch_rnc.specs.Opened.{HasNext, IsNodeOf}
use Rattle.dch_rnc.specs.Standing.{Represents, Shows}
use Rattle.dch_rnc.specs.State.{Event, OfferedUnit, BlockedCombination, IubFrame, Tick, Change, State, opened_state}
use Rattle.dch_rnc.specs.Steps.{Steps}
use Rattle.dch_rnc.specs.Values.{Node}
use Rattle.dch_handle.specs.NodeRules.{KeepsTime, NodeRules, cfn_after}

-- a radio frame passes with a tick
abbrev pub rnc_passes : Event → Bool
rnc_passes (OfferedUnit b octets bits) = false
rnc_passes (BlockedCombination c on) = false
rnc_passes (IubFrame set octets) = false
rnc_passes Tick = true
rnc_passes (Change planned) = false

abbrev pub rnc_rules : NodeRules State Event Node
rnc_rules = record {
  opened = opened_state;
  cfn = λ s. s.cfn;
  steps = Steps;
  change = Change;
  passes = rnc_passes;
  is_opened = IsNodeOf;
  has_next = HasNext;
  represents = Represents;
  shows = Shows;
}

turns : (old new : State) (event : Event) (output : Output) → Steps old event new output
    → new.cfn ≡ cfn_after (rnc_passes event) old.cfn
turns old new (OfferedUnit b octets bits) output step = ap (λ (s : State). s.cfn) step.state
turns old new (BlockedCombination c on) output step = ap (λ (s : State). s.cfn) step.0
turns old new (IubFrame set octets) output (inl read) = ap (λ (s : State). s.cfn) read.state
turns old new (IubFrame set octets) output (inr refused) = ap (λ (s : State). s.cfn) refused.state
turns old new Tick output step = ap (λ (s : State). s.cfn) step.state
turns old new (Change planned) output step = ap (λ (s : State). s.cfn) step.state

pub rnc_time : KeepsTime rnc_rules
rnc_time = record { opens_at = λ planned first. refl; turns = turns; unpassed = λ planned. refl }
