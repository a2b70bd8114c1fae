-- Reports that hold more lines, and their room.
use Rattle.std.specs.Prelude.{◌<◌, ◌≤◌, ◌+◌, ◌++◌, ℕ, List, length}
use Rattle.dch_indication.specs.Lines.{Line}
use Rattle.dch_indication.specs.Told.{Told}
use Rattle.dch_script.specs.Held.{Held}
use Rattle.dch_script.specs.LineText.{text_of}

-- a report with more lines
abbrev pub added : Held → List Line → Held
added report lines = record report { text = report.text ++ text_of lines }

-- there is room for so many more bytes
abbrev pub HasRoomFor : Held → ℕ → Type 0
HasRoomFor report count = length report.text + count ≤ report.most

-- a user was told of lines whose text has less than so many bytes
pub record TellsFew {U : Type 0} (shows : U → Line → U → Type 0) (bytes : ℕ) (before after : U) : Type 0 where
  pub lines : List Line
  pub told : Told shows before lines after
  pub few : length (text_of lines) < bytes
