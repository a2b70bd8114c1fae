-- What a run of the command `link` that went well carries.
use Rattle.std.specs.Prelude.{◌≡◌, ◌*◌, ◌++◌, ℕ, List, Bool, codes}
use Rattle.std.specs.Io.KnownBytes.{Consumes, Appends}
use Rattle.dch_io.specs.Ends.{End}
use Rattle.dch_script.specs.Lines.{lines_of}
use Rattle.dch_check.specs.ConfigSection.{configuration_of, script_of}
use Rattle.dch_check.specs.declared.both.Configurations.{Configurations}
use Rattle.dch_lines.specs.LineTexts.{closing}
use Rattle.dch_runlaw.specs.Headline.{Carries}
use Rattle.dch_check.specs.Configured.{ArePlannedAs}
use Rattle.dch_top.specs.NodeRuns.{later_of}
use Rattle.dch_check.specs.declared.front.FrontKind.TheVariants.{Both}

-- the source gave configurations that are accepted, and lines behind them that lead three nodes through a run; the sink
-- took the line `open`, the text that is shown of the run, and the closing line; and the rows of the text hand up the
-- units of the bearers, over both parts of the run where a second configuration became active
pub record CarriesUnits (start : ℕ) (quiet : Bool) (source sink : End) : Type 0 where
  pub taken : List ℕ
  pub written : List ℕ
  pub takes : Consumes source.before source.now taken
  pub writes : Appends sink.before sink.now written
  pub accepted : Configurations
  pub is : ArePlannedAs Both (configuration_of taken) accepted
  pub text : List ℕ
  pub frames : ℕ
  pub all : written ≡ codes "open\n" ++ text ++ closing frames
  pub carries : Carries accepted.first (later_of accepted.second) (8 * start) quiet (lines_of (script_of taken)) text
