-- A history with one more step.
use Rattle.std.proofs.Common.{ℕ, List, refl, sym, subst}
use Rattle.dch_accept.specs.Plans.{Planned}
use Rattle.dch_node.specs.Lines.{Line}
use Rattle.dch_node.specs.Standing.{AreNone, Tells}
use Rattle.dch_node.specs.Values.{no_output}
use Rattle.dch_node.proofs.Traces.{trace_next}
use Rattle.dch_nodeb.specs.Standing.{Represents, RepresentsHistory, Stepped, ExtendsHistory}
use Rattle.dch_nodeb.specs.State.{Event, State, opened_state}
use Rattle.dch_nodeb.specs.Steps.{Steps}
use Rattle.dch_nodeb.specs.Values.{Node}

-- a Node B that takes a step from each state that it stands for stands for one event more, in the configuration that is active then
pub went_on : (began before planned : Planned) (old new : Node) (event : Event) (Says : List Line → Type 0) (first : ℕ) (events : List Event) (lines : List Line)
    → RepresentsHistory began before first events lines old → ((state : State) → Represents before state old → Stepped planned state event new Says)
    → ExtendsHistory began planned first events lines event new Says
went_on began before planned old new event Says first events lines was steps =
    let stepped : Stepped planned was.state event new Says = steps was.state was.stands in
    record {
      own = stepped.output.lines;
      stands = record {
        state = stepped.next;
        last = stepped.output;
        after = trace_next Steps (opened_state began first) was.state stepped.next no_output was.last stepped.output events event lines was.after stepped.step;
        stands = stepped.stands;
        shows = stepped.shows;
      };
      tells = stepped.tells;
    }

-- where there is no line, nobody is told
pub untold : {S : Type 0} (shows : S → Line → S → Type 0) (planned : Planned) (state : State) (event : Event) (node : Node) (user : S) → Stepped planned state event node AreNone → Stepped planned state event node (Tells shows user user)
untold shows planned state event node user is = record {
  next = is.next;
  output = is.output;
  step = is.step;
  stands = is.stands;
  shows = is.shows;
  tells = subst (λ (ls : List Line). Tells shows user user ls) (sym is.tells) refl;
}
