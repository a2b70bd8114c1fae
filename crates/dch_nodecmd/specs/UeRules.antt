-- The rules of the command `ue`: each line is one event of the terminal.
use Rattle.std.specs.Prelude.{ℕ}
use Rattle.dch_script.specs.declared.event.Command.TheVariants.{Ue}
use Rattle.dch_lines.specs.Semantics.{Semantics}
use Rattle.dch_ue.specs.State.{Event, OfferedUnit, BlockedCombination, DownlinkFrame, Tick, Change, State, no_readings, opened_state}
use Rattle.dch_ue.specs.Steps.{Steps}
use Rattle.dch_nodecmd.specs.UeLineEvents.{event_of}
use Rattle.dch_nodecmd.specs.NodeRules.{NodeRules}
use Rattle.dch_nodecmd.specs.Rules.{node_lines}
use Rattle.dch_nodecmd.specs.Run.{Run}

-- how many radio frames of 10 ms an event stands for: one where they have passed
abbrev pub frame_count : Event → ℕ
frame_count (OfferedUnit bearer octets bits) = 0
frame_count (BlockedCombination combination on) = 0
frame_count (DownlinkFrame frame) = 0
frame_count Tick = 1
frame_count (Change planned) = 0

-- what of a state later steps go on from: all but what the last step read
abbrev pub kept_of : State → State
kept_of state = record state { readings = no_readings }

abbrev pub ue_rules : NodeRules State Event
ue_rules = record {
  command = Ue;
  planned = λ s. s.planned;
  cfn = λ s. s.cfn;
  kept = kept_of;
  opened = opened_state;
  steps = Steps;
  event_of = event_of;
  change = Change;
  frames = frame_count;
}

abbrev pub ue_lines : Semantics (Run State Event)
ue_lines = node_lines ue_rules
