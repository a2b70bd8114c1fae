-- How a bearer hands up units.
use Rattle.std.specs.Prelude.{◌≤◌, ℕ, List, take}
use Rattle.dch_types.specs.declared.channel.Dir.{Dir}
use Rattle.dch_rlcpdu.specs.declared.handed.Handed.{Handed}
use Rattle.dch_rlcpdu.specs.declared.handed.Handed.TheVariants.{Whole, Overlong}
use Rattle.dch_indication.specs.Lines.{Line, Got, Overlong as TooLong}
use Rattle.dch_indication.specs.Told.{Told}
use Rattle.dch_layer2.specs.UnitLines.{unit_lines}

-- the line on a unit that stands at the front of these octets, or is overlong
abbrev pub handed_line : Dir → ℕ → Handed → List ℕ → Line
handed_line dir b (Whole size) room = Got dir b (take size room)
handed_line dir b Overlong room = TooLong dir b

abbrev pub IsWithin : Handed → ℕ → Type 0
IsWithin (Whole size) room = size ≤ room
IsWithin Overlong room = Unit {0}

-- of these units some were told, and these wait: whoever is told of these next was told of all
pub record Going {S : Type 0} (shows : S → Line → S → Type 0) (dir : Dir) (b : ℕ) (all : List (List ℕ)) (before : S)
    (left : List (List ℕ)) (now : S) : Type 0 where
  pub on : (last : S) → Told shows now (unit_lines dir b left) last → Told shows before (unit_lines dir b all) last
