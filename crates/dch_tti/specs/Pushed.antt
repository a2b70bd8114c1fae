-- Radio frames that arrive one after another just as they were written, and the frames that are kept after each.
use Rattle.std.specs.Prelude.{◌≡◌, ◌≢◌, ◌<◌, ◌+◌, ◌%◌, ℕ, List, Option, Some, length, slice_index}
use Rattle.dch_bits.specs.declared.bit.Trit.{Trit}
use Rattle.dch_types.specs.declared.channel.Dir.{Dir}
use Rattle.dch_types.specs.Parts.{channel_at, side_of}
use Rattle.dch_accept.specs.declared.frame.FrameView.{FrameView}
use Rattle.dch_accept.specs.Frames.{Frame}
use Rattle.dch_accept.specs.Plans.{Planned}
use Rattle.dch_tti.specs.Frames.{IsFrameOf}
use Rattle.dch_tti.specs.Loaded.{AreFormats, Loaded, loaded_at}
use Rattle.dch_tti.specs.RxFrames.{Keeps, RxFrames, rx_frame_at}

-- the radio frame of a CFN is taken: what is kept of it has the place of its CFN, the others stay, and it is the last
-- one
pub record IsPushed (planned : Planned) (dir : Dir) (cfn : ℕ) (frame : Option FrameView)
    (old new : RxFrames) : Type 0 where
  pub kept : Keeps planned dir frame (rx_frame_at new.frames (cfn % 8))
  pub others : (k : ℕ) → k ≢ cfn % 8 → rx_frame_at new.frames k ≡ rx_frame_at old.frames k
  pub last : new.cfn ≡ cfn

-- a view shows a frame
pub record IsViewOf (frame : Frame) (view : FrameView) : Type 0 where
  pub tfci : view.tfci.now ≡ frame.tfci
  pub cells : view.cells.now ≡ frame.cells

-- the frame of a CFN is taken just as it was written in combination c of the list, while this was loaded of channel i
pub record IsSentAndPushed (planned : Planned) (dir : Dir) (multiplexed : List Loaded → ℕ → ℕ → ℕ → Trit) (i cfn c : ℕ)
    (loaded : Loaded) (old new : RxFrames) : Type 0 where
  pub listed : c < length (side_of planned.config dir).combinations
  pub tti : List Loaded
  pub formats : AreFormats (side_of planned.config dir) c tti
  pub holds : loaded_at tti i ≡ loaded
  pub frame : Frame
  pub written : IsFrameOf planned dir (multiplexed tti cfn c) c frame
  pub view : FrameView
  pub shown : IsViewOf frame view
  pub pushed : IsPushed planned dir cfn (Some view) old new

-- all radio frames of a TTI of channel i are pushed as they were written, each in its TFC of a sequence; reader n is
-- what is kept before radio frame n
abbrev pub AreSentAndPushed : Planned → Dir → (List Loaded → ℕ → ℕ → ℕ → Trit) → ℕ → ℕ → List ℕ → Loaded
    → (ℕ → RxFrames) → Type 0
AreSentAndPushed planned dir multiplexed i first sequence loaded readers =
    (n : ℕ) → n < (channel_at (side_of planned.config dir) i).frames
    → IsSentAndPushed planned dir multiplexed i (first + n) (slice_index sequence n) loaded (readers n)
    (readers (n + 1))
