-- A TTI whose radio frames are kept just as they were written. A direction tells the multiplexed cells of the frame of
-- a CFN and a combination, by what is loaded.
use Rattle.std.specs.Prelude.{◌≡◌, ◌<◌, ℕ, List, Some, length, slice_index}
use Rattle.dch_bits.specs.declared.bit.Trit.{Trit}
use Rattle.dch_types.specs.declared.channel.Dir.{Dir}
use Rattle.dch_types.specs.Parts.{channel_at, side_of}
use Rattle.dch_accept.specs.Cells.{code_cells}
use Rattle.dch_accept.specs.Frames.{Frame}
use Rattle.dch_accept.specs.Plans.{Planned}
use Rattle.dch_tti.specs.Frames.{IsFrameOf}
use Rattle.dch_tti.specs.Loaded.{AreFormats, Loaded, frame_number, loaded_at}
use Rattle.dch_tti.specs.RxFrames.{AreBack, RxFrame, RxFrames, frame_at}

-- a frame is kept as it was written in combination c, as frame n of the TTI of channel i, of which this was loaded
pub record IsSentFrame (planned : Planned) (dir : Dir) (multiplexed : List Loaded → ℕ → ℕ → ℕ → Trit) (i n c : ℕ)
    (loaded : Loaded) (kept : RxFrame) : Type 0 where
  pub tti : List Loaded
  pub cfn : ℕ
  pub frame : Frame
  pub formats : AreFormats (side_of planned.config dir) c tti
  pub holds : loaded_at tti i ≡ loaded
  pub number : frame_number (side_of planned.config dir) i cfn ≡ n
  pub written : IsFrameOf planned dir (multiplexed tti cfn c) c frame
  pub found : kept.combination ≡ Some c
  pub back : AreBack (code_cells planned dir (length frame.cells)) frame.cells kept.cells

-- all radio frames of a TTI are kept as they were written, each in its TFC of a sequence
abbrev pub AreSentFrames : Planned → Dir → (List Loaded → ℕ → ℕ → ℕ → Trit) → RxFrames → ℕ → List ℕ → Loaded → Type 0
AreSentFrames planned dir multiplexed reader i sequence loaded =
    let side = side_of planned.config dir in
    (n : ℕ) → n < (channel_at side i).frames
    → IsSentFrame planned dir multiplexed i n (slice_index sequence n) loaded (frame_at side reader i n)
