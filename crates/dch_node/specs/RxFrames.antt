-- What a node keeps of the radio frames that came (TS 25.212 4.3.3).
use Rattle.std.specs.Prelude.{◌≡◌, ◌<◌, ℕ, Option, Some, None}
use Rattle.dch_types.specs.declared.channel.Dir.{Dir}
use Rattle.dch_accept.specs.Plans.{Planned}
use Rattle.dch_tti.specs.RxFrames.{IsKept, RxFrame, RxFrames, rx_frame_at}
use Rattle.dch_node.specs.Values.{Radio}

-- what is kept of a radio frame of a direction, which may be missing
abbrev pub KeepsRadio : Planned → Dir → Option Radio → RxFrame → Type 0
KeepsRadio planned dir None kept = kept.combination ≡ None
KeepsRadio planned dir (Some radio) kept = IsKept planned dir radio.tfci radio.cells kept

-- the radio frames of the last 8 CFNs are kept, the last one being that of a CFN
pub record AreHeard (planned : Planned) (dir : Dir) (cfn : ℕ) (frames : ℕ → Option Radio)
    (rx_frames : RxFrames) : Type 0 where
  pub last : rx_frames.cfn ≡ cfn
  pub kept : (k : ℕ) → k < 8 → KeepsRadio planned dir (frames k) (rx_frame_at rx_frames.frames k)
