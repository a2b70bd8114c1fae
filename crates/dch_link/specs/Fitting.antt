-- What a node sends fits a configuration.
use Rattle.std.specs.Prelude.{◌≡◌, ◌<◌, ℕ, List, Option, Some, None, true, length}
use Rattle.dch_types.specs.declared.channel.Dir.{Dir}
use Rattle.dch_types.specs.Parts.{side_of}
use Rattle.dch_types.specs.Timing.{has_set}
use Rattle.dch_accept.specs.Cells.{frame_cells}
use Rattle.dch_accept.specs.Frames.{tfci_bits}
use Rattle.dch_accept.specs.Plans.{Planned}
use Rattle.dch_iub.specs.Shape.{AreFormats, frame_octets}
use Rattle.dch_node.specs.Values.{Output, Radio}

-- a radio frame has the TFCI bits of its direction, and the cells of a combination
pub record FitsRadio (planned : Planned) (dir : Dir) (radio : Radio) : Type 0 where
  pub tfci : length radio.tfci ≡ tfci_bits planned.config dir
  pub combination : ℕ
  pub listed : combination < length (side_of planned.config dir).combinations
  pub cells : length radio.cells ≡ frame_cells planned dir combination

abbrev pub MayFitRadio : Planned → Dir → Option Radio → Type 0
MayFitRadio planned dir None = Unit {0}
MayFitRadio planned dir (Some radio) = FitsRadio planned dir radio

-- an Iub frame is one of a set that there is, and as long as some formats make it
pub record FitsIub (planned : Planned) (dir : Dir) (set : ℕ) (octets : List ℕ) : Type 0 where
  pub there : has_set (side_of planned.config dir) set ≡ true
  pub numbers : List ℕ
  pub formats : AreFormats (side_of planned.config dir) set numbers
  pub long : length octets ≡ frame_octets planned.config dir set numbers

abbrev pub MayFitIub : Planned → Dir → ℕ → Option (List ℕ) → Type 0
MayFitIub planned dir set None = Unit {0}
MayFitIub planned dir set (Some octets) = FitsIub planned dir set octets

-- radio frames are sent in one direction, and Iub frames in one
pub record Fits (planned : Planned) (radio iub : Dir) (output : Output) : Type 0 where
  pub radio_is : MayFitRadio planned radio output.sent
  pub iub_is : (s : ℕ) → s < 8 → MayFitIub planned iub s (output.iub s)
