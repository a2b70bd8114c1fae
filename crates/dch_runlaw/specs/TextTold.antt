-- What the lines and the text of a run of the three nodes tell of the units that the two ends hand up.
use Rattle.std.specs.Prelude.{◌≡◌, ◌<◌, ◌≤◌, ◌^◌, ◌++◌, ◌↔◌, length, ℕ, List, [], Bool, Contains}
use Rattle.dch_types.specs.declared.channel.Dir.{Dir}
use Rattle.dch_types.specs.declared.channel.Dir.TheVariants.{Up, Down}
use Rattle.dch_script.specs.Lines.{lines_of as rows, rest_of}
use Rattle.dch_node.specs.Lines.{Differs, Line}
use Rattle.dch_script.specs.LineText.{text_of}
use Rattle.dch_lines.specs.Shown.{shown}
use Rattle.dch_linkcmd.specs.LinkLink.{LinkState}
use Rattle.dch_runlaw.specs.TextDiffering.{AreLow, false_rows, false_words, falses}
use Rattle.dch_runlaw.specs.Directions.{lines_on}
use Rattle.dch_runlaw.specs.Lines.{lines_of}
use Rattle.dch_runlaw.specs.Rows.{AreSmall, got_rows, gots, rows_of}

-- the terminal and the network controller have no more bearers than a good configuration has
pub record AreFewBearers (link : LinkState) : Type 0 where
  pub ue : length link.ue.state.planned.config.bearers ≤ 16
  pub rnc : length link.rnc.state.planned.config.bearers ≤ 16

-- and no more channels
pub record AreFewChannels (link : LinkState) : Type 0 where
  pub uplink : length link.rnc.state.planned.config.uplink.side.channels ≤ 8
  pub downlink : length link.rnc.state.planned.config.downlink.side.channels ≤ 8

-- of the lines of a run, those on units and PDUs of a bearer that went up are just what the network controller has
-- reported on it, and those on what went down are the terminal's. Where bearers and channels are few, their numbers in
-- lines are small; and the configurations stay
pub record IsTold (old new : LinkState) (lines : List Line) : Type 0 where
  pub up : (b : ℕ) → lines_of b new.rnc.lines ≡ lines_of b old.rnc.lines ++ lines_on Up b lines
  pub down : (b : ℕ) → lines_of b new.ue.lines ≡ lines_of b old.ue.lines ++ lines_on Down b lines
  pub small : AreFewBearers old → AreSmall lines
  pub low : AreFewChannels old → AreLow lines
  pub ue_stays : new.ue.state.planned ≡ old.ue.state.planned
  pub rnc_stays : new.rnc.state.planned ≡ old.rnc.state.planned

-- a text consists of whole rows, and those that hand up units of a bearer are just those of the lines that its end has
-- reported
pub record IsRead (link : LinkState) (text : List ℕ) : Type 0 where
  pub whole : rest_of text ≡ []
  pub up : (b : ℕ) → b < 2 ^ 64 → got_rows Up b (rows text) ≡ rows_of (gots Up b (lines_of b link.rnc.lines))
  pub down : (b : ℕ) → b < 2 ^ 64 → got_rows Down b (rows text) ≡ rows_of (gots Down b (lines_of b link.ue.lines))

-- what is shown of lines has whole rows, and the same rows that hand up units as their whole text
pub record ShowsUnits (quiet : Bool) (lines : List Line) : Type 0 where
  pub whole : rest_of (shown quiet (text_of lines)) ≡ []
  pub same : (dir : Dir) (b : ℕ) → got_rows dir b (rows (shown quiet (text_of lines)))
      ≡ got_rows dir b (rows (text_of lines))

-- the rows `false up I` and `false down I` of a text are just those of such lines, so that there is a row just where
-- there is the line
pub record TellsFalse (lines : List Line) (text : List ℕ) : Type 0 where
  pub are : (dir : Dir) (i : ℕ) → i < 2 ^ 64 → false_rows dir i (rows text) ≡ rows_of (falses dir i lines)
  pub told : (dir : Dir) (i : ℕ) → i < 2 ^ 64 → Contains (rows text)
      (false_words dir i) ↔ Contains lines (Differs dir i)
