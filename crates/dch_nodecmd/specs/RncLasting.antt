-- The configuration of a network controller stays over its steps, but for a change, and its CFN goes on by the radio
-- frames. Steps go on from all but what the last step read.
use Rattle.std.specs.Prelude.{◌≡◌, ◌≢◌, ◌+◌, ◌%◌, ℕ, Some, refl}
use Rattle.std.proofs.Common.{ap, arith, inl, inr, sym, subst}
use Rattle.dch_types.specs.declared.config.Config.{Config}
use Rattle.dch_accept.specs.Plans.{Planned}
use Rattle.dch_script.specs.ParsedLine.{ParsedLine, code, unit, block, free, flip, lose, lose_iub, spoil, frame, iub, down, phy, phy_none, tick, change}
use Rattle.dch_layer2.specs.Reading.{Reading}
use Rattle.dch_node.specs.Values.{Output}
use Rattle.dch_rnc.specs.State.{Event, OfferedUnit, BlockedCombination, IubFrame, Tick, Change, State}
use Rattle.dch_rnc.specs.Steps.{Steps}
use Rattle.dch_nodecmd.specs.RncLineEvents.{event_of}
use Rattle.dch_nodecmd.specs.RncRules.{frame_count, kept_of, rnc_rules}
use Rattle.dch_nodecmd.specs.NodeRules.{AreLasting}

-- no line says the event of a change
no_change : (config : Config) (parsed : ParsedLine) (planned : Planned) → event_of config parsed ≢ Some (Change planned)
no_change config (unit dir bearer text) planned says = cc
no_change config (block dir combination) planned says = cc
no_change config (free dir combination) planned says = cc
no_change config (iub set hex) planned says = cc
no_change config (phy tfci cells) planned says = cc
no_change config phy_none planned says = cc
no_change config tick planned says = cc
no_change config (code coding crc bits) planned says = cc
no_change config (flip dir tfci place) planned says = cc
no_change config (lose dir) planned says = cc
no_change config (lose_iub dir set) planned says = cc
no_change config (spoil dir set octet mask) planned says = cc
no_change config (frame count) planned says = cc
no_change config down planned says = cc
no_change config change planned says = cc

planned_stays : (old new : State) (event : Event) (output : Output) → ((planned : Planned) → event ≢ Change planned)
    → Steps old event new output → new.planned ≡ old.planned
planned_stays old new (OfferedUnit bearer octets bits) output other step = ap (λ (s : State). s.planned) step.state
planned_stays old new (BlockedCombination combination on) output other step = ap (λ (s : State). s.planned) step.0
planned_stays old new (IubFrame set octets) output other (inl read) = ap (λ (s : State). s.planned) read.state
planned_stays old new (IubFrame set octets) output other (inr refused) = ap (λ (s : State). s.planned) refused.state
planned_stays old new Tick output other step = ap (λ (s : State). s.planned) step.state
planned_stays old new (Change planned) output other step = absurd (other planned refl)

cfn_turns : (old new : State) (event : Event) (output : Output) → Steps old event new output → new.cfn % 256
    ≡ (old.cfn + frame_count event) % 256
cfn_turns old new (OfferedUnit bearer octets bits) output step = let same : new.cfn
    ≡ old.cfn = ap (λ (s : State). s.cfn) step.state in omega (arith, same)
cfn_turns old new (BlockedCombination combination on) output step = let same : new.cfn
    ≡ old.cfn = ap (λ (s : State). s.cfn) step.0 in omega (arith, same)
cfn_turns old new (IubFrame set octets) output (inl read) = let same : new.cfn
    ≡ old.cfn = ap (λ (s : State). s.cfn) read.state in omega (arith, same)
cfn_turns old new (IubFrame set octets) output (inr refused) = let same : new.cfn
    ≡ old.cfn = ap (λ (s : State). s.cfn) refused.state in omega (arith, same)
cfn_turns old new Tick output step = let next : new.cfn
    ≡ (old.cfn + 1) % 256 = ap (λ (s : State). s.cfn) step.state in omega (arith, next)
cfn_turns old new (Change planned) output step = let same : new.cfn
    ≡ old.cfn = ap (λ (s : State). s.cfn) step.state in omega (arith, same)

-- a state with other readings
with_readings : (older old : State) → kept_of older ≡ kept_of old → older ≡ record old { readings = older.readings }
with_readings older old same = ap (λ (s : State). record s { readings = older.readings }) same

on_readings : (old new : State) (readings : ℕ → Reading) (event : Event) (output : Output) → Steps old event new output
    → Steps (record old { readings = readings }) event new output
on_readings old new readings (OfferedUnit bearer octets bits) output step = record {
  state = step.state;
  reported = step.reported;
}
on_readings old new readings (BlockedCombination combination on) output step = step
on_readings old new readings (IubFrame set octets) output (inl read) = inl (record {
  cfn = read.cfn;
  qe = read.qe;
  held = read.held;
  read = read.read;
  state = read.state;
  reported = read.reported;
})
on_readings old new readings (IubFrame set octets) output (inr refused) = inr (record {
  error = refused.error;
  cause = refused.cause;
  state = refused.state;
  reported = refused.reported;
})
on_readings old new readings Tick output step = record {
  start = step.start;
  state = step.state;
  iub = step.iub;
  reported = step.reported;
  no_radio = step.no_radio;
}
on_readings old new readings (Change planned) output step = record { state = step.state; quiet = step.quiet }

pub rnc_lasting : AreLasting rnc_rules
rnc_lasting = record {
  opens = λ planned first. refl;
  is_kept = λ state. refl;
  stays = planned_stays;
  unsaid = no_change;
  changeless = λ config. refl;
  changes = λ old new planned output step. ap (λ (s : State). s.planned) step.state;
  uncounted = λ planned. refl;
  silent = λ old new planned output step. ap (λ (o : Output). o.lines) step.quiet;
  opens_at = λ planned first. refl;
  turns = cfn_turns;
  goes_on = λ old older new event output same step. subst (λ (s : State). Steps s event new output)
      (sym (with_readings older old same)) (on_readings old new older.readings event output step);
}
