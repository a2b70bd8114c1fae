-- One more step of a node that runs with others.
use Rattle.std.proofs.Common.{List, [], refl, subst}
use Rattle.dch_node.specs.Lines.{Line}
use Rattle.dch_node.specs.Standing.{HasHistory, TakesStep}
use Rattle.dch_node.specs.Values.{Output, no_output}
use Rattle.dch_node.proofs.Traces.{trace_next}
use Rattle.dch_link.specs.Courses.{Course, IsCourse, course_after}

-- what a node stands for may be something else behind the step
pub course_changes : {S E V : Type 0} (Steps : S → E → S → Output → Type 0) (Stood Stands : S → V → Type 0) (Shows : Output → V → Type 0) (opened : S) (course : Course S E) (event : E) (old new : V) (Says : List Line → Type 0)
    → IsCourse Steps Stood Shows opened course old → (step : TakesStep Steps Stands Shows course.state event new Says) → IsCourse Steps Stands Shows opened (course_after course event step.next step.output) new
course_changes Steps Stood Stands Shows opened course event old new Says was step = record {
  stands = step.stands;
  shows = step.shows;
  reached = trace_next Steps opened course.state step.next no_output course.last step.output course.events event course.lines was.reached step.step;
}

pub course_is : {S E V : Type 0} (Steps : S → E → S → Output → Type 0) (Stands : S → V → Type 0) (Shows : Output → V → Type 0) (opened : S) (course : Course S E) (event : E) (old new : V) (Says : List Line → Type 0)
    → IsCourse Steps Stands Shows opened course old → (step : TakesStep Steps Stands Shows course.state event new Says) → IsCourse Steps Stands Shows opened (course_after course event step.next step.output) new
course_is Steps Stands Shows opened course event old new Says was step = course_changes Steps Stands Stands Shows opened course event old new Says was step

-- a node at which all that happened stands for its history
pub history_of : {S E V : Type 0} (Steps : S → E → S → Output → Type 0) (Stands : S → V → Type 0) (Shows : Output → V → Type 0) (opened : S) (course : Course S E) (node : V)
    → IsCourse Steps Stands Shows opened course node → HasHistory Steps Stands Shows opened course.events course.lines node
history_of Steps Stands Shows opened course node is = record { state = course.state; last = course.last; after = is.reached; stands = is.stands; shows = is.shows }

-- and the other way round
pub course_of : {S E V : Type 0} (Steps : S → E → S → Output → Type 0) (Stands : S → V → Type 0) (Shows : Output → V → Type 0) (opened : S) (node : V) (now : HasHistory Steps Stands Shows opened [] [] node)
    → IsCourse Steps Stands Shows opened (record { state = opened; last = no_output; events = []; lines = [] }) node
course_of {S} {E} {V} Steps Stands Shows opened node now = record {
  stands = subst (λ (s : S). Stands s node) now.after.0 now.stands;
  shows = subst (λ (o : Output). Shows o node) now.after.1 now.shows;
  reached = (refl, refl, refl);
}
