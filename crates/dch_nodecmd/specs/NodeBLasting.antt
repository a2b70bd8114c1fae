-- The configuration of a Node B stays over its steps, but for a change, and its CFN goes on by the radio frames.
use Rattle.std.specs.Prelude.{◌≡◌, ◌≢◌, ◌+◌, ◌%◌, Some, refl}
use Rattle.std.proofs.Common.{ap, arith, inl, inr, subst, sym}
use Rattle.dch_accept.specs.Plans.{Planned}
use Rattle.dch_script.specs.ParsedLine.{ParsedLine, code, unit, block, free, flip, lose, lose_iub, spoil, frame, iub, down, phy, phy_none, tick, change}
use Rattle.dch_node.specs.Values.{Output}
use Rattle.dch_nodeb.specs.State.{Event, IubFrame, DownlinkDue, UplinkFrame, Change, State}
use Rattle.dch_nodeb.specs.Steps.{Steps}
use Rattle.dch_nodecmd.specs.NodeBLineEvents.{event_of}
use Rattle.dch_nodecmd.specs.NodeBRules.{frame_count, node_b_rules}
use Rattle.dch_nodecmd.specs.NodeRules.{AreLasting}

-- no line says the event of a change
no_change : (parsed : ParsedLine) (planned : Planned) → event_of parsed ≢ Some (Change planned)
no_change (iub set hex) planned says = cc
no_change down planned says = cc
no_change (phy tfci cells) planned says = cc
no_change phy_none planned says = cc
no_change (code coding crc bits) planned says = cc
no_change (unit dir bearer text) planned says = cc
no_change (block dir combination) planned says = cc
no_change (free dir combination) planned says = cc
no_change (flip dir tfci place) planned says = cc
no_change (lose dir) planned says = cc
no_change (lose_iub dir set) planned says = cc
no_change (spoil dir set octet mask) planned says = cc
no_change (frame count) planned says = cc
no_change tick planned says = cc
no_change change planned says = cc

planned_stays : (old new : State) (event : Event) (output : Output) → ((planned : Planned) → event ≢ Change planned)
    → Steps old event new output → new.planned ≡ old.planned
planned_stays old new (IubFrame set octets) output other (inl kept) = ap (λ (s : State). s.planned) kept.state
planned_stays old new (IubFrame set octets) output other (inr refused) = ap (λ (s : State). s.planned) refused.state
planned_stays old new DownlinkDue output other step = ap (λ (s : State). s.planned) step.state
planned_stays old new (UplinkFrame radio) output other step = ap (λ (s : State). s.planned) step.state
planned_stays old new (Change planned) output other step = absurd (other planned refl)

cfn_turns : (old new : State) (event : Event) (output : Output) → Steps old event new output → new.cfn % 256
    ≡ (old.cfn + frame_count event) % 256
cfn_turns old new (IubFrame set octets) output (inl kept) = let same : new.cfn
    ≡ old.cfn = ap (λ (s : State). s.cfn) kept.state in omega (arith, same)
cfn_turns old new (IubFrame set octets) output (inr refused) = let same : new.cfn
    ≡ old.cfn = ap (λ (s : State). s.cfn) refused.state in omega (arith, same)
cfn_turns old new DownlinkDue output step = let same : new.cfn
    ≡ old.cfn = ap (λ (s : State). s.cfn) step.state in omega (arith, same)
cfn_turns old new (UplinkFrame radio) output step = let next : new.cfn
    ≡ (old.cfn + 1) % 256 = ap (λ (s : State). s.cfn) step.state in omega (arith, next)
cfn_turns old new (Change planned) output step = let same : new.cfn
    ≡ old.cfn = ap (λ (s : State). s.cfn) step.state in omega (arith, same)

pub node_b_lasting : AreLasting node_b_rules
node_b_lasting = record {
  opens = λ planned first. refl;
  is_kept = λ state. refl;
  stays = planned_stays;
  unsaid = λ config. no_change;
  changeless = λ config. refl;
  changes = λ old new planned output step. ap (λ (s : State). s.planned) step.state;
  uncounted = λ planned. refl;
  silent = λ old new planned output step. ap (λ (o : Output). o.lines) step.quiet;
  opens_at = λ planned first. refl;
  turns = cfn_turns;
  goes_on = λ old older new event output same step. subst (λ (s : State). Steps s event new output) (sym same) step;
}
