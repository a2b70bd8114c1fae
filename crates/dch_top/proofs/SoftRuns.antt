-- A run of `soft` that went well has as many Node Bs as legs.
use Rattle.std.proofs.Common.{◌≡◌, ◌++◌, ℕ, List, Bool, subst, ⊎_elim, inr}
use Rattle.dch_io.specs.Ends.{End}
use Rattle.dch_check.specs.declared.both.Configurations.{Configurations}
use Rattle.dch_script.specs.Lines.{lines_of}
use Rattle.dch_lines.specs.declared.stop.Outcome.TheVariants.{Ok as Done}
use Rattle.dch_runlaw.specs.SoftRules.{soft_lines}
use Rattle.dch_runlaw.specs.SoftRun.{Run}
use Rattle.dch_top.specs.Benches.{Nodes}
use Rattle.dch_check.specs.Configured.{EndsLate, FollowsScript}
use Rattle.dch_top.specs.NodeRuns.{RunsWith}
use Rattle.dch_top.specs.SoftRuns.{HoldsLegs, HoldsSoft, RunsSoft, run_of}
use Rattle.dch_check.specs.declared.status.Status.{Status}
use Rattle.dch_check.specs.declared.status.Status.TheVariants.{Ok as Well, Refused, Usage, ReadFault, WriteFault, NoMemory, TooLong}
use Rattle.dch_check.specs.declared.front.FrontKind.TheVariants.{Single}
use Rattle.dch_check.proofs.Outcomes.{only_well}
use Rattle.dch_top.proofs.SoftStays.{soft_lines_stay}

-- there are as many legs afterwards as at opening
count_stays : (count start : ℕ) (quiet : Bool) (source sink : End) (taken written : List ℕ) (after : Run) → EndsLate Single soft_lines (run_of count start quiet) source sink taken written after Well → after.soft.count ≡ count
count_stays count start quiet source sink taken written after late =
    let opened : Configurations → Run = run_of count start quiet in
    let done = only_well late.outcome late.same in
    let follows : FollowsScript Single soft_lines opened source sink taken written after Done = subst (FollowsScript Single soft_lines opened source sink taken written after) done late.follows in
    (soft_lines_stay (opened follows.accepted) after (lines_of (follows.part ++ follows.later)) follows.answers.text follows.answers.handles).count

-- the bench holds as many Node Bs as there are legs
pub soft_held : (count start : ℕ) (quiet : Bool) (source sink : End) (nodes : Nodes) (status : Status) → RunsWith Single soft_lines (run_of count start quiet) HoldsLegs source sink nodes status → RunsSoft count start quiet source sink nodes status
soft_held count start quiet source sink nodes Well runs = record {
  runs = record {
    taken = runs.runs.taken;
    written = runs.runs.written;
    takes = runs.runs.takes;
    writes = runs.runs.writes;
    answers = ⊎_elim (λ early. absurd early)
        (λ late. inr (
          late.0,
          (late.1.0, subst (λ n. HoldsSoft n nodes late.0) (count_stays count start quiet source sink runs.runs.taken runs.runs.written late.0 late.1.0) late.1.1),
        )) runs.runs.answers;
  };
  idle = runs.idle;
}
soft_held count start quiet source sink nodes Refused runs = record { runs = runs.runs; idle = runs.idle }
soft_held count start quiet source sink nodes Usage runs = record { runs = runs.runs; idle = runs.idle }
soft_held count start quiet source sink nodes ReadFault runs = record { runs = runs.runs; idle = runs.idle }
soft_held count start quiet source sink nodes WriteFault runs = record { runs = runs.runs; idle = runs.idle }
soft_held count start quiet source sink nodes NoMemory runs = record { runs = runs.runs; idle = runs.idle }
soft_held count start quiet source sink nodes TooLong runs = record { runs = runs.runs; idle = runs.idle }
