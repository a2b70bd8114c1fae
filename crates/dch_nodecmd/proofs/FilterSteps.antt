-- A node that tells a filter of the lines of its steps.
use Rattle.std.proofs.Common.{ℕ, List}
use Rattle.dch_accept.specs.Plans.{Planned}
use Rattle.dch_script.specs.ParsedLine.{ParsedLine}
use Rattle.dch_node.specs.Lines.{Line}
use Rattle.dch_node.specs.Values.{Output}
use Rattle.dch_nodecmd.specs.NodeRules.{NodeRules}
use Rattle.dch_nodecmd.specs.Handlers.{Changes, StepsBy, TakesAs}
use Rattle.dch_nodecmd.specs.declared.taken.Taken.{Taken}
use Rattle.dch_nodecmd.specs.declared.taken.Taken.TheVariants as taken

-- what holds of the lines of a step, where something else does
steps_such : {S E V : Type 0} (rules : NodeRules S E) (Represents : Planned → S → V → Type 0) (Shows : Output → V → Type 0) (planned : Planned) (parsed : ParsedLine) (count : ℕ) (old new : V) (Says More : List Line → Type 0) → ((lines : List Line) → Says lines → More lines)
    → StepsBy rules Represents Shows planned parsed count old new Says → StepsBy rules Represents Shows planned parsed count old new More
steps_such rules Represents Shows planned parsed count old new Says More on is = record {
  event = is.event;
  says = is.says;
  counted = is.counted;
  steps = λ state stands. let step = is.steps state stands in record { next = step.next; output = step.output; step = step.step; stands = step.stands; shows = step.shows; tells = on step.output.lines step.tells };
}

pub takes_such : {S E V : Type 0} (rules : NodeRules S E) (Represents : Planned → S → V → Type 0) (Shows : Output → V → Type 0) (planned : Planned) (parsed : ParsedLine) (old new : V) (Says More : List Line → Type 0) (Unsaid Same : Type 0) (how : Taken) → ((lines : List Line) → Says lines → More lines) → (Unsaid → Same)
    → TakesAs rules Represents Shows planned parsed old new Says Unsaid how → TakesAs rules Represents Shows planned parsed old new More Same how
takes_such rules Represents Shows planned parsed old new Says More Unsaid Same (taken.Event count) on none is = steps_such rules Represents Shows planned parsed count old new Says More on is
takes_such rules Represents Shows planned parsed old new Says More Unsaid Same taken.Change on none is = (is.0, is.1, none is.2)

pub changes_such : {S E V : Type 0} (rules : NodeRules S E) (Represents : Planned → S → V → Type 0) (HasNext : Planned → Planned → V → Type 0) (Shows : Output → V → Type 0) (second : Planned) (old new : V) (Says More : List Line → Type 0) → ((lines : List Line) → Says lines → More lines)
    → Changes rules Represents HasNext Shows second old new Says → Changes rules Represents HasNext Shows second old new More
changes_such rules Represents HasNext Shows second old new Says More on is first state stands next =
    let step = is first state stands next in
    record { next = step.next; output = step.output; step = step.step; stands = step.stands; shows = step.shows; tells = on step.output.lines step.tells }
