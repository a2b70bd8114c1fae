-- A run of `link` that went well carries the units of the bearers.
use Rattle.std.proofs.Common.{◌≡◌, ◌%◌, ◌*◌, ℕ, List, Bool, Option, None, Some, arith, sym, subst, ⊎_elim}
use Rattle.std.specs.Prelude.{IfSome}
use Rattle.dch_accept.specs.Plans.{IsPlanned, Planned}
use Rattle.dch_io.specs.Ends.{End}
use Rattle.dch_check.specs.declared.both.Configurations.{Configurations}
use Rattle.dch_check.specs.declared.both.Second.{Second}
use Rattle.dch_script.specs.Lines.{lines_of}
use Rattle.dch_check.specs.ConfigSection.{configuration_of, script_of}
use Rattle.dch_lines.specs.LineTexts.{HandlesLines}
use Rattle.dch_lines.specs.declared.stop.Outcome.TheVariants.{Ok as Done}
use Rattle.dch_runlaw.specs.LinkcmdRules.{link_lines}
use Rattle.dch_runlaw.specs.LinkcmdRun.{Run}
use Rattle.dch_lines.specs.Coming.{CanFollow}
use Rattle.dch_runlaw.specs.Headline.{IsLater}
use Rattle.dch_runlaw.proofs.Headline.{carried}
use Rattle.dch_top.specs.declared.arguments.Arguments.{Arguments}
use Rattle.dch_top.specs.declared.arguments.Subcommand.{Subcommand}
use Rattle.dch_top.specs.declared.arguments.Subcommand.TheVariants.{Link}
use Rattle.dch_top.proofs.Fronts.{second_follows}
use Rattle.dch_check.proofs.Outcomes.{only_well}
use Rattle.dch_top.specs.Benches.{Nodes}
use Rattle.dch_check.specs.Configured.{EndsLate, FollowsScript}
use Rattle.dch_top.specs.LinkRuns.{RunsLink, run_of}
use Rattle.dch_top.specs.LinkUnits.{CarriesUnits}
use Rattle.dch_top.specs.NodeRuns.{later_of}
use Rattle.dch_top.specs.Ran.{Runs}
use Rattle.dch_check.specs.declared.status.Status.{Status}
use Rattle.dch_check.specs.declared.status.Status.TheVariants.{Ok as Well}
use Rattle.dch_check.specs.declared.front.FrontKind.TheVariants.{Both}

-- a second configuration keeps its limits, and can follow the first one
pub laters : (first : Planned) (second : Option Second) → IfSome second (λ s. IsPlanned s.accepted) → IfSome (later_of second) (CanFollow first) → IfSome (later_of second) (IsLater first)
laters first None good follows = tt
laters first (Some second) good follows = record { good = good; follows = follows }

link_carries : (start : ℕ) (quiet : Bool) (source sink : End) (nodes : Nodes) → RunsLink start quiet source sink nodes Well → CarriesUnits start quiet source sink
link_carries start quiet source sink nodes runs = ⊎_elim (λ early. absurd early) (λ late. well late.0 late.1.0) runs.runs.answers
  where
    opened : Configurations → Run
    opened accepted = run_of start quiet accepted

    well : (after : Run) → EndsLate Both link_lines opened source sink runs.runs.taken runs.runs.written after Well → CarriesUnits start quiet source sink
    well after late =
        let done : late.outcome ≡ Done = only_well late.outcome late.same in
        let follows : FollowsScript Both link_lines opened source sink runs.runs.taken runs.runs.written after Done = subst (FollowsScript Both link_lines opened source sink runs.runs.taken runs.runs.written after) done late.follows in
        let handles : HandlesLines link_lines (opened follows.accepted) (lines_of (script_of runs.runs.taken)) after follows.answers.text =
        subst (λ (bytes : List ℕ). HandlesLines link_lines (opened follows.accepted) (lines_of bytes) after follows.answers.text) (sym follows.script) follows.answers.handles in
        let begins : (8 * start) % 8 ≡ 0 = omega arith in
        record {
          taken = runs.runs.taken;
          written = runs.runs.written;
          takes = runs.runs.takes;
          writes = runs.runs.writes;
          accepted = follows.accepted;
          is = follows.is;
          text = follows.answers.text;
          frames = after.frames;
          all = follows.answers.all;
          carries = carried follows.accepted.first (later_of follows.accepted.second) (8 * start) quiet (lines_of (script_of runs.runs.taken)) after follows.answers.text follows.is.plans
              (laters follows.accepted.first follows.accepted.second follows.is.later (second_follows (configuration_of runs.runs.taken) follows.accepted follows.is.judged)) begins handles;
        }

-- what a run of the words for it does
pub units_carried : (subcommand : Subcommand) (arguments : Arguments) (source sink : End) (nodes : Nodes) (status : Status) → Runs subcommand arguments source sink nodes status → subcommand ≡ Link → status ≡ Well → CarriesUnits arguments.start arguments.quiet source sink
units_carried subcommand arguments source sink nodes status runs is well =
    link_carries arguments.start arguments.quiet source sink nodes
    (subst (λ s. RunsLink arguments.start arguments.quiet source sink nodes s) well (subst (λ c. Runs c arguments source sink nodes status) is runs))
