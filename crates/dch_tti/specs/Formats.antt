-- The format that the kept radio frames of a TTI give a channel.
use Rattle.std.specs.Prelude.{◌≡◌, ◌≢◌, ◌<◌, ◌⊎◌, ℕ, Option, Some, None, Result, Ok, Err, length}
use Rattle.dch_types.specs.declared.channel.Side.{Side}
use Rattle.dch_types.specs.Parts.{channel_at, format_number}
use Rattle.dch_tti.specs.RxFrames.{RxFrames, frame_at, rx_frame_at}

-- the format of channel i in a combination, if there is one
abbrev pub format_in : Side → ℕ → Option ℕ → Option ℕ
format_in side i None = None
format_in side i (Some c) = Some (format_number side c i)

-- the format that frame n of the TTI gives channel i, if that frame is there
abbrev pub tti_format : Side → RxFrames → ℕ → ℕ → Option ℕ
tti_format side reader i n = format_in side i (frame_at side reader i n).combination

-- n is the first frame of the TTI that is missing or gives channel i another format than frame 0 does
pub record IsBadFrame (side : Side) (reader : RxFrames) (i n : ℕ) : Type 0 where
  pub inside : n < (channel_at side i).frames
  pub bad : (tti_format side reader i n ≡ None) ⊎ (tti_format side reader i n ≢ tti_format side reader i 0)
  pub first : (earlier : ℕ) → earlier < n →
      (tti_format side reader i earlier ≢ None) × (tti_format side reader i earlier ≡ tti_format side reader i 0)

-- all frames of the TTI are there and give channel i format f
abbrev pub AllGive : Side → RxFrames → ℕ → ℕ → Type 0
AllGive side reader i f = (n : ℕ) → n < (channel_at side i).frames → tti_format side reader i n ≡ Some f

-- and the channel has that format
pub record IsFormatOf (side : Side) (reader : RxFrames) (i f : ℕ) : Type 0 where
  pub inside : f < length (channel_at side i).formats
  pub all : AllGive side reader i f

-- the format of a TTI, or its first bad frame
abbrev pub FindsFormat : Side → RxFrames → ℕ → Result ℕ ℕ → Type 0
FindsFormat side reader i (Ok f) = IsFormatOf side reader i f
FindsFormat side reader i (Err n) = IsBadFrame side reader i n

-- the combinations of the kept frames are in the list
abbrev pub AreListed : Side → RxFrames → Type 0
AreListed side reader = (k c : ℕ) → k < 8 → (rx_frame_at reader.frames k).combination ≡ Some c
    → c < length side.combinations
