-- A history with one more step.
use Rattle.std.proofs.Common.{◌∙◌, ◌++◌, List, [], ◌∷◌, refl, ap, sym, subst, append_assoc, append-nil}
use Rattle.dch_node.specs.Lines.{Line}
use Rattle.dch_node.specs.Standing.{HasHistory, HasLongerHistory, TakesStep}
use Rattle.dch_node.specs.Traces.{Trace}
use Rattle.dch_node.specs.Values.{Output, no_output}

-- one more step at the end
pub trace_next : {S E : Type 0} (Steps : S → E → S → Output → Type 0) (old mid next : S) (before last output : Output) (events : List E) (event : E) (lines : List Line)
    → Trace Steps old before events mid last lines → Steps mid event next output → Trace Steps old before (events ++ event ∷ []) next output (lines ++ output.lines)
trace_next {S} {E} Steps old mid next before last output [] event lines runs step = record {
  next = next;
  output = output;
  rest = [];
  step = subst (λ (s : S). Steps s event next output) runs.0 step;
  later = (refl, refl, refl);
  reported = ap (λ (l : List Line). l ++ output.lines) runs.2 ∙ sym (append-nil output.lines);
}
trace_next {S} {E} Steps old mid next before last output (first ∷ later) event lines runs step = record {
  next = runs.next;
  output = runs.output;
  rest = runs.rest ++ output.lines;
  step = runs.step;
  later = trace_next Steps runs.next mid next runs.output last output later event runs.rest runs.later step;
  reported = ap (λ (l : List Line). l ++ output.lines) runs.reported ∙ append_assoc runs.output.lines runs.rest output.lines;
}

-- a value that takes a step from each state that it stands for stands for one event more
pub history_next : {S E V : Type 0} (Steps : S → E → S → Output → Type 0) (Represents : S → V → Type 0) (Shows : Output → V → Type 0) (opened : S) (old new : V) (event : E) (Says : List Line → Type 0) (events : List E) (lines : List Line)
    → HasHistory Steps Represents Shows opened events lines old → ((state : S) → Represents state old → TakesStep Steps Represents Shows state event new Says)
    → HasLongerHistory Steps Represents Shows opened events lines event new Says
history_next {S} {E} {V} Steps Represents Shows opened old new event Says events lines was steps =
    let stepped : TakesStep Steps Represents Shows was.state event new Says = steps was.state was.stands in
    record {
      own = stepped.output.lines;
      stands = record {
        state = stepped.next;
        last = stepped.output;
        after = trace_next Steps opened was.state stepped.next no_output was.last stepped.output events event lines was.after stepped.step;
        stands = stepped.stands;
        shows = stepped.shows;
      };
      tells = stepped.tells;
    }

-- what holds of the lines of a step holds of them in other words
pub says_step : {S E V : Type 0} (Steps : S → E → S → Output → Type 0) (Represents : S → V → Type 0) (Shows : Output → V → Type 0) (old : S) (event : E) (value : V) (Says Such : List Line → Type 0)
    → ((lines : List Line) → Says lines → Such lines) → TakesStep Steps Represents Shows old event value Says → TakesStep Steps Represents Shows old event value Such
says_step Steps Represents Shows old event value Says Such turn step =
    record { next = step.next; output = step.output; step = step.step; stands = step.stands; shows = step.shows; tells = turn step.output.lines step.tells }

pub says_history : {S E V : Type 0} (Steps : S → E → S → Output → Type 0) (Represents : S → V → Type 0) (Shows : Output → V → Type 0) (opened : S) (events : List E) (lines : List Line) (event : E) (value : V) (Says Such : List Line → Type 0)
    → ((own : List Line) → Says own → Such own) → HasLongerHistory Steps Represents Shows opened events lines event value Says → HasLongerHistory Steps Represents Shows opened events lines event value Such
says_history Steps Represents Shows opened events lines event value Says Such turn longer = record { own = longer.own; stands = longer.stands; tells = turn longer.own longer.tells }
