-- What a run of a command does whose lines stand alone, with nothing in front of them.
use Rattle.std.specs.Prelude.{◌≡◌, ◌⊎◌, []}
use Rattle.dch_io.specs.Ends.{End}
use Rattle.dch_lines.specs.Followed.{FollowsInput}
use Rattle.dch_lines.specs.Processor.{Progress}
use Rattle.dch_lines.specs.Semantics.{Semantics}
use Rattle.dch_lines.specs.declared.stop.Outcome.{Outcome}
use Rattle.dch_check.specs.Configured.{outcome_status}
use Rattle.dch_check.specs.Untouched.{IsUntouched}
use Rattle.dch_check.specs.declared.status.Status.{Status}
use Rattle.dch_check.specs.declared.status.Status.TheVariants.{NoMemory}

-- the work before the first line
abbrev pub beginning : {S : Type 0} → S → Progress S
beginning state = record { handler = state; line = []; text = []; bytes = 0; lines = 0; nonempty_lines = 0 }

-- the lines of the input were followed from a state on, and left the command in some state
abbrev pub FollowsLines : {S : Type 0} → Semantics S → S → End → End → Outcome → Type 0
FollowsLines {S} semantics state source sink outcome = (after : S)
    × FollowsInput semantics source sink (beginning state) after [] outcome

-- a run by its status, which is that of following the lines, or there was no memory to begin
abbrev pub RunsLines : {S : Type 0} → Semantics S → S → End → End → Status → Type 0
RunsLines semantics state source sink status = ((outcome : Outcome) × ((status ≡ outcome_status outcome)
    × FollowsLines semantics state source sink outcome)) ⊎ ((status ≡ NoMemory) × IsUntouched source sink)
