-- What a run of the command `link` carries of the lines that were handled, however it ended.
use Rattle.std.specs.Prelude.{◌≡◌, ◌⊎◌, ◌*◌, ◌+◌, ◌-◌, ℕ, List, [], ◌∷◌, ◌++◌, Bool, codes, length, take}
use Rattle.std.specs.Io.KnownBytes.{Consumes, Appends, IsAtEnd}
use Rattle.dch_io.specs.Ends.{End, IsCutShort}
use Rattle.dch_io.specs.Pieces.{LIMIT}
use Rattle.dch_script.specs.Lines.{lines_of, rest_of}
use Rattle.dch_script.specs.declared.event.LineError.{LineError}
use Rattle.dch_check.specs.ConfigSection.{configuration_of, script_of}
use Rattle.dch_check.specs.declared.both.Configurations.{Configurations}
use Rattle.dch_lines.specs.Followed.{IsRefused}
use Rattle.dch_lines.specs.LineTexts.{BeginsLine, HandlesLine, HandlesLines, refusal, closing}
use Rattle.dch_runlaw.specs.Headline.{Carries}
use Rattle.dch_runlaw.specs.LinkcmdRules.{link_lines}
use Rattle.dch_runlaw.specs.LinkcmdRun.{Run}
use Rattle.dch_check.specs.Configured.{ArePlannedAs, EndsUnopened, script_begin}
use Rattle.dch_top.specs.LinkRuns.{run_of}
use Rattle.dch_top.specs.NodeRuns.{later_of}
use Rattle.dch_check.specs.declared.status.Status.{Status}
use Rattle.dch_check.specs.declared.status.Status.TheVariants.{Ok as Well, Refused, Usage, ReadFault, WriteFault, NoMemory, TooLong}
use Rattle.dch_check.specs.declared.front.FrontKind.TheVariants.{Both}

-- the input was read to its end, all its lines were handled, and the closing line ends the text
pub record EndsWhole (source : End) (taken : List ℕ) (good : List (List ℕ)) (state : Run) (last : List ℕ) : Type 0 where
  pub end : IsAtEnd source.now
  pub lines : lines_of (script_of taken) ≡ good
  pub ended : rest_of (script_of taken) ≡ []
  pub closes : last ≡ closing state.frames

-- the lines before a malformed one were handled, and the line that refuses it ends the text
pub record EndsRefused (source : End) (taken : List ℕ) (good : List (List ℕ)) (state : Run)
    (last : List ℕ) : Type 0 where
  pub why : LineError
  pub refused : IsRefused link_lines source state [] (script_of taken) good why
  pub names : last ≡ refusal ((script_begin taken state).lines + length good) why

-- a write failed within the text that the next line adds, with all its radio frames or with some of their stages
pub record CutsLine (taken : List ℕ) (good : List (List ℕ)) (state : Run) (last : List ℕ) : Type 0 where
  pub line : List ℕ
  pub later : List (List ℕ)
  pub lines : lines_of (script_of taken) ≡ good ++ (line ∷ later)
  pub new : Run
  pub text : List ℕ
  pub adds : HandlesLine link_lines state line new text ⊎ BeginsLine link_lines state line new text
  pub cut : IsCutShort last text

-- or within the line that ends the text
pub record CutsEnd (source : End) (taken : List ℕ) (good : List (List ℕ)) (state : Run) (last : List ℕ) : Type 0 where
  pub text : List ℕ
  pub ends : EndsWhole source taken good state text ⊎ EndsRefused source taken good state text
  pub cut : IsCutShort last text

-- the lines that end within the limit
abbrev pub lines_within : List ℕ → Run → List (List ℕ)
lines_within taken state = lines_of (take (LIMIT - (script_begin taken state).bytes) (script_of taken))

-- which lines of an input were handled, and what stands behind their text, by the status
abbrev pub EndsAs : End → List ℕ → List (List ℕ) → Run → List ℕ → Status → Type 0
EndsAs source taken good state last Well = EndsWhole source taken good state last
EndsAs source taken good state last Refused = EndsRefused source taken good state last
EndsAs source taken good state last Usage = ⊥
EndsAs source taken good state last ReadFault = (lines_of (script_of taken) ≡ good) × (last ≡ [])
EndsAs source taken good state last WriteFault = CutsLine taken good state last ⊎ CutsEnd source taken good state last
EndsAs source taken good state last NoMemory = ⊥
EndsAs source taken good state last TooLong = (lines_within taken state ≡ good) × (last ≡ [])

-- the source gave configurations that are accepted, and lines behind them of which these lead three nodes through a
-- run; the sink took the line
-- `open`, the text that is shown of the run, and what ends it; and the rows of the text hand up the units of the
-- bearers
pub record CarriesHandled (start : ℕ) (quiet : Bool) (source sink : End) (status : Status) : Type 0 where
  pub taken : List ℕ
  pub written : List ℕ
  pub takes : Consumes source.before source.now taken
  pub writes : Appends sink.before sink.now written
  pub accepted : Configurations
  pub is : ArePlannedAs Both (configuration_of taken) accepted
  pub good : List (List ℕ)
  pub state : Run
  pub text : List ℕ
  pub handles : HandlesLines link_lines (run_of start quiet accepted) good state text
  pub last : List ℕ
  pub ends : EndsAs source taken good state last status
  pub all : written ≡ codes "open\n" ++ text ++ last
  pub carries : Carries accepted.first (later_of accepted.second) (8 * start) quiet good text

-- a write failed within the line `open`
pub record CutsOpen (sink : End) (status : Status) : Type 0 where
  pub failed : status ≡ WriteFault
  pub written : List ℕ
  pub writes : Appends sink.before sink.now written
  pub cut : IsCutShort written (codes "open\n")

-- how a run ends: without the line `open`, within it, or behind some lines that were handled
abbrev pub CarriesSoFar : ℕ → Bool → End → End → Status → Type 0
CarriesSoFar start quiet source sink status = EndsUnopened Both source sink status
    ⊎ (CutsOpen sink status ⊎ CarriesHandled start quiet source sink status)
