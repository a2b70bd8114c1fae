-- How a run ends.
use Rattle.std.proofs.Common.{◌≡◌, ℕ, List, subst, ◌∙◌}
use Rattle.std.specs.Prelude.{string_bytes}
use Rattle.dch_io.specs.Ends.{End}
use Rattle.dch_check.specs.ConfigSection.{settled}
use Rattle.dch_check.specs.TakenConfigs.{IsTakenConfig}
use Rattle.dch_check.specs.declared.taken_config.TakenConfig.{TakenConfig}
use Rattle.dch_margin.specs.Answers.{Answers}
use Rattle.dch_margin.specs.Runs.{Ends, IsLack, Judges, Wrote}
use Rattle.dch_margin.specs.declared.report.Report.{Report}
use Rattle.dch_margin.specs.declared.report.Report.TheVariants.{Lines, Refused}
use Rattle.dch_margin.specs.declared.telling.Telling.{Telling}
use Rattle.dch_check.specs.declared.status.Status.{Status}
use Rattle.dch_check.specs.declared.status.Status.TheVariants.{Ok as Done, Refused as IsRefused, Usage, ReadFault, WriteFault, NoMemory, TooLong}

-- a report that was written
pub ended : (telling : Telling) (source sink : End) (report : Report) (status : Status) → Judges telling source report → Wrote sink report status → Ends telling source sink status
ended telling source sink (Lines lines) Done judges wrote = record { taken = judges.taken; written = string_bytes lines; takes = judges.takes; writes = wrote; says = judges.answers }
ended telling source sink (Lines lines) IsRefused judges wrote = absurd wrote
ended telling source sink (Lines lines) Usage judges wrote = absurd wrote
ended telling source sink (Lines lines) ReadFault judges wrote = absurd wrote
ended telling source sink (Lines lines) WriteFault judges wrote = wrote
ended telling source sink (Lines lines) NoMemory judges wrote = absurd wrote
ended telling source sink (Lines lines) TooLong judges wrote = absurd wrote
ended telling source sink (Refused line) Done judges wrote = absurd wrote
ended telling source sink (Refused line) IsRefused judges wrote = record { taken = judges.taken; written = string_bytes line; takes = judges.takes; writes = wrote; says = judges.answers }
ended telling source sink (Refused line) Usage judges wrote = absurd wrote
ended telling source sink (Refused line) ReadFault judges wrote = absurd wrote
ended telling source sink (Refused line) WriteFault judges wrote = wrote
ended telling source sink (Refused line) NoMemory judges wrote = absurd wrote
ended telling source sink (Refused line) TooLong judges wrote = absurd wrote

-- nothing to write
pub lacking : (telling : Telling) (source sink : End) (status : Status) → IsLack source status → Ends telling source sink status
lacking telling source sink Done lack = absurd lack
lacking telling source sink IsRefused lack = absurd lack
lacking telling source sink Usage lack = absurd lack
lacking telling source sink ReadFault lack = lack
lacking telling source sink WriteFault lack = absurd lack
lacking telling source sink NoMemory lack = lack
lacking telling source sink TooLong lack = lack

-- a configuration that was taken
pub judged : (telling : Telling) (source : End) (room : List ℕ) (taken : TakenConfig) (text : List ℕ) (report : Report) → IsTakenConfig source room taken → text ≡ settled taken.section → Answers telling text report → Judges telling source report
judged telling source room taken text report is same answers = record {
  taken = is.taken;
  takes = is.takes;
  answers = subst (λ (text : List ℕ). Answers telling text report) (same ∙ is.text) answers;
}
