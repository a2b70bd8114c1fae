-- A radio frame as either direction writes it: the TFCI of its combination, and its multiplexed cells after the second
-- interleaver (TS 25.212 4.2.11, 4.3.3, 4.3.5). A direction tells what its multiplexed cells are.
use Rattle.std.specs.Prelude.{◌≡◌, ◌<◌, ℕ, length, slice_index_or}
use Rattle.dch_bits.specs.declared.bit.Trit.{Trit}
use Rattle.dch_bits.specs.declared.bit.Trit.TheVariants.{Off}
use Rattle.dch_types.specs.declared.channel.Dir.{Dir}
use Rattle.dch_frame.specs.Stages.{code_place}
use Rattle.dch_tfci.specs.Tfci.{sent}
use Rattle.dch_accept.specs.Cells.{code_cells, frame_cells}
use Rattle.dch_accept.specs.Frames.{Frame, tfci_bits}
use Rattle.dch_accept.specs.Plans.{Planned}

-- the multiplexed place that cell k of a frame of combination c shows
abbrev pub multiplexed_place : Planned → Dir → ℕ → ℕ → ℕ
multiplexed_place planned dir c k = code_place (code_cells planned dir (frame_cells planned dir c)) k

-- the frame of combination c that shows these multiplexed cells
pub record IsFrameOf (planned : Planned) (dir : Dir) (multiplexed : ℕ → Trit) (c : ℕ) (frame : Frame) : Type 0 where
  pub tfci : frame.tfci ≡ sent c (tfci_bits planned.config dir)
  pub long : length frame.cells ≡ frame_cells planned dir c
  pub cells : (k : ℕ) → k < length frame.cells → slice_index_or frame.cells k Off
      ≡ multiplexed (multiplexed_place planned dir c k)
