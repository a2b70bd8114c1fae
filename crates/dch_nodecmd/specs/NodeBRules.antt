-- The rules of the command `nodeb`: each line is one event of the Node B.
use Rattle.std.specs.Prelude.{ℕ}
use Rattle.dch_script.specs.declared.event.Command.TheVariants.{NodeB}
use Rattle.dch_lines.specs.Semantics.{Semantics}
use Rattle.dch_nodeb.specs.State.{Event, IubFrame, DownlinkDue, UplinkFrame, Change, State, opened_state}
use Rattle.dch_nodeb.specs.Steps.{Steps}
use Rattle.dch_nodecmd.specs.NodeBLineEvents.{event_of}
use Rattle.dch_nodecmd.specs.NodeRules.{NodeRules}
use Rattle.dch_nodecmd.specs.Rules.{node_lines}
use Rattle.dch_nodecmd.specs.Run.{Run}

-- how many radio frames of 10 ms an event stands for: one where an uplink radio frame came, or is missing
abbrev pub frame_count : Event → ℕ
frame_count (IubFrame set octets) = 0
frame_count DownlinkDue = 0
frame_count (UplinkFrame frame) = 1
frame_count (Change planned) = 0

abbrev pub node_b_rules : NodeRules State Event
node_b_rules = record {
  command = NodeB;
  planned = λ s. s.planned;
  cfn = λ s. s.cfn;
  kept = λ s. s;
  opened = opened_state;
  steps = Steps;
  event_of = λ config parsed. event_of parsed;
  change = Change;
  frames = frame_count;
}

abbrev pub node_b_lines : Semantics (Run State Event)
node_b_lines = node_lines node_b_rules
