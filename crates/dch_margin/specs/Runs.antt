-- What a run takes and writes.
use Rattle.std.specs.Prelude.{◌≡◌, ℕ, List, ⊤, Option, Some, None, Result, Ok, Err, codes, string_bytes}
use Rattle.std.specs.Io.KnownBytes.{Consumes, Appends}
use Rattle.dch_io.specs.Ends.{End, Fails}
use Rattle.dch_check.specs.ConfigSection.{configuration_of}
use Rattle.dch_check.specs.Singles.{RefusesSingle}
use Rattle.dch_margin.specs.Answers.{Answers, ReportsOf}
use Rattle.dch_margin.specs.declared.report.Report.{Report}
use Rattle.dch_margin.specs.declared.report.Report.TheVariants.{Lines, Refused}
use Rattle.dch_margin.specs.declared.telling.Telling.{Telling}
use Rattle.dch_check.specs.declared.status.Status.{Status}
use Rattle.dch_check.specs.declared.status.Status.TheVariants.{Ok as Done, Refused as IsRefused, Usage, ReadFault, WriteFault, NoMemory, TooLong}

-- some bytes were taken, and this was written on the configuration in front of them
pub record Writes (Says : List ℕ → List ℕ → Type 0) (source sink : End) : Type 0 where
  pub taken : List ℕ
  pub written : List ℕ
  pub takes : Consumes source.before source.now taken
  pub writes : Appends sink.before sink.now written
  pub says : Says (configuration_of taken) written

-- what a run did
abbrev pub Ends : Telling → End → End → Status → Type 0
Ends telling source sink Done = Writes (ReportsOf telling) source sink
Ends telling source sink IsRefused = Writes RefusesSingle source sink
Ends telling source sink Usage = ⊥
Ends telling source sink ReadFault = Fails source
Ends telling source sink WriteFault = Fails sink
Ends telling source sink NoMemory = ⊤
Ends telling source sink TooLong = ⊤

-- what is written where the words ask for nothing that is told
abbrev pub usage : List ℕ
usage = codes "usage: dch_margin [--worst]\n"

abbrev pub RefusesWords : End → Status → Type 0
RefusesWords sink Usage = Appends sink.before sink.now usage
RefusesWords sink WriteFault = Fails sink
RefusesWords sink _ = ⊥

pub record Misuses (source sink : End) (status : Status) : Type 0 where
  pub answers : RefusesWords sink status
  pub unread : source.now ≡ source.before

-- a run with what its words ask for
abbrev pub EndsAsked : Option Telling → End → End → Status → Type 0
EndsAsked (Some telling) source sink status = Ends telling source sink status
EndsAsked None source sink status = Misuses source sink status

-- a configuration was taken and judged
pub record Judges (telling : Telling) (source : End) (report : Report) : Type 0 where
  pub taken : List ℕ
  pub takes : Consumes source.before source.now taken
  pub answers : Answers telling (configuration_of taken) report

-- or why not
abbrev pub IsLack : End → Status → Type 0
IsLack source Done = ⊥
IsLack source IsRefused = ⊥
IsLack source Usage = ⊥
IsLack source ReadFault = Fails source
IsLack source WriteFault = ⊥
IsLack source NoMemory = ⊤
IsLack source TooLong = ⊤

abbrev pub Took : Telling → End → Result Report Status → Type 0
Took telling source (Ok report) = Judges telling source report
Took telling source (Err status) = IsLack source status

-- a report was written
abbrev pub Wrote : End → Report → Status → Type 0
Wrote sink (Lines lines) Done = Appends sink.before sink.now (string_bytes lines)
Wrote sink (Lines lines) WriteFault = Fails sink
Wrote sink (Refused line) IsRefused = Appends sink.before sink.now (string_bytes line)
Wrote sink (Refused line) WriteFault = Fails sink
Wrote sink _ _ = ⊥
