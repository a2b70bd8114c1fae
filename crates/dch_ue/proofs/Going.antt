-- A history with one more step.
use Rattle.std.proofs.Common.{ℕ, List}
use Rattle.dch_accept.specs.Plans.{Planned}
use Rattle.dch_node.specs.Lines.{Line}
use Rattle.dch_node.specs.Values.{no_output}
use Rattle.dch_node.proofs.Traces.{trace_next}
use Rattle.dch_ue.specs.Standing.{Represents, RepresentsHistory, Stepped, ExtendsHistory}
use Rattle.dch_ue.specs.State.{Event, State, opened_state}
use Rattle.dch_ue.specs.Steps.{Steps}
use Rattle.dch_ue.specs.Values.{Node}

-- a terminal that takes a step from each state that it stands for, in the configuration that was active, stands for one event more
pub went_on : (began was planned : Planned) (old new : Node) (event : Event) (Says : List Line → Type 0) (first : ℕ) (events : List Event) (lines : List Line)
    → RepresentsHistory began was first events lines old → ((state : State) → Represents was state old → Stepped planned state event new Says)
    → ExtendsHistory began planned first events lines event new Says
went_on began was planned old new event Says first events lines history steps =
    let stepped : Stepped planned history.state event new Says = steps history.state history.stands in
    record {
      own = stepped.output.lines;
      stands = record {
        state = stepped.next;
        last = stepped.output;
        after = trace_next Steps (opened_state began first) history.state stepped.next no_output history.last stepped.output events event lines history.after stepped.step;
        stands = stepped.stands;
        shows = stepped.shows;
      };
      tells = stepped.tells;
    }
