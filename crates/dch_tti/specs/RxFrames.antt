-- Received radio frames as they are kept: the combination of each, and its cells in multiplexed order (TS 25.212 4.2.11
-- and 4.3, read backwards).
use Rattle.std.specs.Prelude.{◌≡◌, ◌≢◌, ◌<◌, ◌≤◌, ◌+◌, ◌*◌, ◌/◌, ◌%◌, ◌⊎◌, ℕ, List, [], Option, Some, None, length, slice_index_or}
use Rattle.dch_bits.specs.declared.bit.Bit.{Bit}
use Rattle.dch_bits.specs.declared.bit.Trit.{Trit}
use Rattle.dch_bits.specs.declared.bit.Trit.TheVariants.{Off}
use Rattle.dch_types.specs.declared.channel.Dir.{Dir}
use Rattle.dch_types.specs.declared.channel.Side.{Side}
use Rattle.dch_types.specs.Parts.{channel_at, side_of}
use Rattle.dch_frame.specs.Stages.{code_back}
use Rattle.dch_tfci.specs.Tfci.{IsNearest}
use Rattle.dch_accept.specs.declared.frame.FrameView.{FrameView}
use Rattle.dch_accept.specs.declared.room.TtiRoom.{TtiRoom}
use Rattle.dch_accept.specs.Cells.{code_cells, frame_cells}
use Rattle.dch_accept.specs.Frames.{most_cells, tfci_bits}
use Rattle.dch_accept.specs.Plans.{Planned}
use Rattle.dch_accept.specs.Rooms.{most_room}

-- the combination of a frame, if the frame is there, its cells in multiplexed order, and how many there is room for
pub record RxFrame : Type 0 where
  pub combination : Option ℕ
  pub cells : List Trit
  pub room : ℕ

-- the CFN of the last frame, the frames of the last 8 CFNs by their remainders modulo 8, and for how large TTIs there
-- is room where they are read
pub record RxFrames : Type 0 where
  pub cfn : ℕ
  pub frames : List RxFrame
  pub room : TtiRoom

-- the frame with remainder k
abbrev pub rx_frame_at : List RxFrame → ℕ → RxFrame
rx_frame_at frames k = slice_index_or frames k (record { combination = None; cells = []; room = 0 })

-- the remainder of frame n of the TTI to which a CFN belongs
abbrev pub tti_place : ℕ → ℕ → ℕ → ℕ
tti_place cfn frames n = (cfn / frames * frames + n) % 8

-- frame n of the TTI of channel i
abbrev pub frame_at : Side → RxFrames → ℕ → ℕ → RxFrame
frame_at side reader i n = rx_frame_at reader.frames (tti_place reader.cfn (channel_at side i).frames n)

-- combination c is the nearest index of the TFCI, it is in the list, and its frames have so many cells
pub record IsFound (planned : Planned) (dir : Dir) (tfci : List Bit) (cells c : ℕ) : Type 0 where
  pub away : ℕ
  pub nearest : IsNearest tfci c away
  pub listed : c < length (side_of planned.config dir).combinations
  pub long : cells ≡ frame_cells planned dir c

-- the nearest index of the TFCI is not in the list, or the frames of that combination have another number of cells
pub record IsUnfit (planned : Planned) (dir : Dir) (tfci : List Bit) (cells : ℕ) : Type 0 where
  pub index : ℕ
  pub away : ℕ
  pub nearest : IsNearest tfci index away
  pub unfit : (length (side_of planned.config dir).combinations ≤ index) ⊎ (cells ≢ frame_cells planned dir index)

-- the combination that is found in a frame of so many cells, if any
abbrev pub Finds : Planned → Dir → List Bit → ℕ → Option ℕ → Type 0
Finds planned dir tfci cells (Some c) = IsFound planned dir tfci cells c
Finds planned dir tfci cells None = IsUnfit planned dir tfci cells

-- a frame's cells in multiplexed order, where its codes have so many cells each
pub record AreBack (code : ℕ) (cells back : List Trit) : Type 0 where
  pub whole : length back ≡ length cells
  pub shown : (p : ℕ) → p < length back → slice_index_or back p Off ≡ slice_index_or cells (code_back code p) Off

-- a frame of a combination is held
pub record IsHeld (c code : ℕ) (cells : List Trit) (kept : RxFrame) : Type 0 where
  pub combination : kept.combination ≡ Some c
  pub back : AreBack code cells kept.cells

-- a frame is kept where a combination is found in it
pub record IsKept (planned : Planned) (dir : Dir) (tfci : List Bit) (cells : List Trit) (kept : RxFrame) : Type 0 where
  pub found : Finds planned dir tfci (length cells) kept.combination
  pub back : (c : ℕ) → kept.combination ≡ Some c → AreBack (code_cells planned dir (length cells)) cells kept.cells

-- what is kept of a frame, which may be missing
abbrev pub Keeps : Planned → Dir → Option FrameView → RxFrame → Type 0
Keeps planned dir None kept = kept.combination ≡ None
Keeps planned dir (Some frame) kept = IsKept planned dir frame.tfci.now frame.cells.now kept

-- a frame that is there has as many TFCI bits as its direction sends
abbrev pub HasTfci : Planned → Dir → Option FrameView → Type 0
HasTfci planned dir None = Unit {0}
HasTfci planned dir (Some frame) = length frame.tfci.now ≡ tfci_bits planned.config dir

-- what is kept fits a direction: there is room for each of its frames, and a kept frame is one of a combination
pub record IsKeptOf (planned : Planned) (dir : Dir) (kept : RxFrame) : Type 0 where
  pub room : kept.room ≡ most_cells planned.config dir
  pub listed : (c : ℕ) → kept.combination ≡ Some c → c < length (side_of planned.config dir).combinations
  pub long : (c : ℕ) → kept.combination ≡ Some c → length kept.cells ≡ frame_cells planned dir c

-- and so do all of the last 8 frames; and there is room for the direction's greatest TTI
pub record IsReaderOf (planned : Planned) (dir : Dir) (reader : RxFrames) : Type 0 where
  pub all : length reader.frames ≡ 8
  pub each : (k : ℕ) → k < 8 → IsKeptOf planned dir (rx_frame_at reader.frames k)
  pub room : reader.room ≡ most_room planned dir

-- so many places without a frame
pub record AreMissing (most count : ℕ) (frames : List RxFrame) : Type 0 where
  pub all : length frames ≡ count
  pub none : (k : ℕ) → (rx_frame_at frames k).combination ≡ None
  pub room : (k : ℕ) → k < count → (rx_frame_at frames k).room ≡ most
