-- The answer to the text of a configuration.
use Rattle.std.specs.Prelude.{ℕ, List, string_bytes}
use Rattle.dch_accept.specs.Plans.{Planned}
use Rattle.dch_check.specs.Singles.{RefusesSingle}
use Rattle.dch_check.specs.Verdicts.{IsAcceptedAs}
use Rattle.dch_margin.specs.Reports.{AreLines}
use Rattle.dch_margin.specs.declared.telling.Telling.{Telling}
use Rattle.dch_margin.specs.declared.report.Report.{Report}
use Rattle.dch_margin.specs.declared.report.Report.TheVariants.{Lines, Refused}

-- a text is accepted as one configuration, and these are its lines
pub record ReportsOf (telling : Telling) (text lines : List ℕ) : Type 0 where
  pub accepted : Planned
  pub is : IsAcceptedAs text accepted
  pub told : AreLines telling accepted.config lines

-- the answer to a text
abbrev pub Answers : Telling → List ℕ → Report → Type 0
Answers telling text (Lines lines) = ReportsOf telling text (string_bytes lines)
Answers telling text (Refused line) = RefusesSingle text (string_bytes line)
