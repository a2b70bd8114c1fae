-- What a command with one node writes for an input, with and without one of its lines.
use Rattle.std.specs.Prelude.{◌≡◌, ℕ, List, [], ◌∷◌, ◌++◌, Bool, false, Ok, codes}
use Rattle.std.specs.Io.KnownBytes.{Consumes, Appends}
use Rattle.dch_io.specs.Ends.{End}
use Rattle.dch_types.specs.declared.channel.Dir.{Dir}
use Rattle.dch_check.specs.declared.both.Configurations.{Configurations}
use Rattle.dch_script.specs.Lines.{lines_of, rest_of}
use Rattle.dch_script.specs.ParsedLine.{iub}
use Rattle.dch_check.specs.ConfigSection.{configuration_of, script_of}
use Rattle.dch_lines.specs.LineTexts.{HandlesLines, is_empty, closing}
use Rattle.dch_node.specs.Lines.{IubBad, Line}
use Rattle.dch_script.specs.LineText.{text_of}
use Rattle.dch_nodecmd.specs.NodeRules.{NodeRules, meaning_for}
use Rattle.dch_nodecmd.specs.Rules.{TakesSaid, config_of, node_lines}
use Rattle.dch_nodecmd.specs.Run.{Run, frames_in}
use Rattle.dch_lines.specs.Shown.{shown}
use Rattle.dch_check.specs.Configured.{ArePlannedAs}
use Rattle.dch_top.specs.NodeRuns.{run_of}
use Rattle.dch_check.specs.declared.front.FrontKind.TheVariants.{Both}

-- the answer to an input of good lines behind accepted configurations, from the line `open` to the line that counts the
-- radio frames
pub record IsAnswer {S E : Type 0} (rules : NodeRules S E) (start : ℕ) (quiet : Bool)
    (input written : List ℕ) : Type 0 where
  pub accepted : Configurations
  pub is : ArePlannedAs Both (configuration_of input) accepted
  pub ended : rest_of (script_of input) ≡ []
  pub new : Run S E
  pub text : List ℕ
  pub handles : HandlesLines (node_lines rules) (run_of rules start quiet accepted)
      (lines_of (script_of input)) new text
  pub all : written ≡ codes "open\n" ++ text ++ closing (frames_in rules new.events)

-- the source gave an input, and the sink took the answer to it
pub record Answers {S E : Type 0} (rules : NodeRules S E) (start : ℕ) (quiet : Bool) (source sink : End) : Type 0 where
  pub taken : List ℕ
  pub written : List ℕ
  pub takes : Consumes source.before source.now taken
  pub writes : Appends sink.before sink.now written
  pub answer : IsAnswer rules start quiet taken written

-- an input has a line between others, and another one has the same configurations and just the others
pub record HasLine (before : List (List ℕ)) (line : List ℕ) (after : List (List ℕ))
    (input shorter : List ℕ) : Type 0 where
  pub lines : lines_of (script_of input) ≡ before ++ line ∷ after
  pub others : lines_of (script_of shorter) ≡ before ++ after
  pub same : configuration_of shorter ≡ configuration_of input
  pub ended : rest_of (script_of shorter) ≡ []

-- behind some lines of a run a line brings an Iub frame of a set, and is answered by the one line that says that it is
-- refused, with a number
pub record IsAnsweredBad {S E : Type 0} (rules : NodeRules S E) (dir : Dir) (run : Run S E) (before : List (List ℕ))
    (line : List ℕ) (set number : ℕ) : Type 0 where
  pub mid : Run S E
  pub text : List ℕ
  pub handles : HandlesLines (node_lines rules) run before mid text
  pub words : is_empty line ≡ false
  pub hex : List ℕ
  pub says : meaning_for rules (config_of rules mid) line ≡ Ok (iub set hex)
  pub new : Run S E
  pub own : List ℕ
  pub takes : TakesSaid rules mid line new own
  pub bad : takes.takes.output.lines ≡ IubBad dir set number ∷ []

-- the shorter input is answered by the same text, less what is shown of some lines
pub record LeavesNoTrace {S E : Type 0} (rules : NodeRules S E) (start : ℕ) (quiet : Bool) (shorter : List ℕ)
    (lines : List Line) (written : List ℕ) : Type 0 where
  pub front : List ℕ
  pub back : List ℕ
  pub whole : written ≡ front ++ shown quiet (text_of lines) ++ back
  pub without : IsAnswer rules start quiet shorter (front ++ back)
