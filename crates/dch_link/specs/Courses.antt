-- What happened at one of several nodes that run together.
use Rattle.std.specs.Prelude.{◌≡◌, ◌++◌, List, [], ◌∷◌}
use Rattle.dch_node.specs.Lines.{Line}
use Rattle.dch_node.specs.Traces.{Reaches}
use Rattle.dch_node.specs.Values.{Output, no_output}

-- the state of the node, what its last step reported and sent, and since opening all that happened and all lines that
-- it reported
pub record Course (S E : Type 0) : Type 0 where
  pub state : S
  pub last : Output
  pub events : List E
  pub lines : List Line

abbrev pub opened_course : {S E : Type 0} → S → Course S E
opened_course state = record { state = state; last = no_output; events = []; lines = [] }

-- after one more event
abbrev pub course_after : {S E : Type 0} → Course S E → E → S → Output → Course S E
course_after old event state output = record {
  state = state;
  last = output;
  events = old.events
      ++ event ∷ [];
  lines = old.lines ++ output.lines;
}

-- the node takes a step for an event
pub record Goes {S E : Type 0} (Steps : S → E → S → Output → Type 0) (old : Course S E) (event : E)
    (new : Course S E) : Type 0 where
  pub state : S
  pub output : Output
  pub step : Steps old.state event state output
  pub is : new ≡ course_after old event state output

-- a value V is a node at which all that happened since opening
pub record IsCourse {S E V : Type 0} (Steps : S → E → S → Output → Type 0) (Stands : S → V → Type 0)
    (Shows : Output → V → Type 0) (opened : S) (course : Course S E) (node : V) : Type 0 where
  pub stands : Stands course.state node
  pub shows : Shows course.last node
  pub reached : Reaches Steps opened course.events course.state course.last course.lines
