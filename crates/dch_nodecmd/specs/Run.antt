-- A run of a command with one node: what is known between two lines.
use Rattle.std.specs.Prelude.{ℕ, List, [], Bool, Option, sum_by}
use Rattle.dch_accept.specs.Plans.{Planned}
use Rattle.dch_node.specs.Lines.{Line}
use Rattle.dch_node.specs.Values.{Output, no_output}
use Rattle.dch_nodecmd.specs.NodeRules.{NodeRules}
use Rattle.dch_lines.specs.declared.later.Later.{Later}

-- the state of the node, the configuration of its opening, the CFN of its first radio frame, the second configuration
-- where one is still to come, and whether the lines of frames are left out; what happened so far, all lines that it
-- reported, and what it reported and sent last
pub record Run (S E : Type 0) : Type 0 where
  pub node : S
  pub began : Planned
  pub first : ℕ
  pub second : Option Later
  pub quiet : Bool
  pub events : List E
  pub lines : List Line
  pub last : Output

-- before the first line
abbrev pub opened_run : {S E : Type 0} → NodeRules S E → Planned → Option Later → ℕ → Bool → Run S E
opened_run rules began second first quiet =
    record {
      node = rules.opened began first;
      began = began;
      first = first;
      second = second;
      quiet = quiet;
      events = [];
      lines = [];
      last = no_output;
    }

-- how many radio frames of 10 ms have passed
abbrev pub frames_in : {S E : Type 0} → NodeRules S E → List E → ℕ
frames_in rules events = sum_by rules.frames events
