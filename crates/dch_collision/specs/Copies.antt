-- How many copies of each coded bit of a TTI are sent (TS 25.212 4.2.4 to 4.2.7).
use Rattle.std.specs.Prelude.{◌≡◌, ◌<◌, ℕ, List, Bool, false, length, unwrap_or, nat_lt, slice_index, slice_index_or}
use Rattle.dch_types.specs.declared.channel.Side.{Side}
use Rattle.dch_types.specs.declared.config.Uplink.{Uplink}
use Rattle.dch_types.specs.declared.config.Downlink.{Downlink}
use Rattle.dch_types.specs.Lengths.{padded, tti_bits}
use Rattle.dch_types.specs.Parts.{channel_at, format_at}
use Rattle.dch_inter.specs.Places.{frame_of, place_of}
use Rattle.dch_frame.specs.Patterns.{copies}
use Rattle.dch_frame.specs.Uplinks.{chosen, demand_of, uplink_pattern}
use Rattle.dch_frame.specs.Downlinks.{pattern_of}

-- Ndata of uplink combination c
abbrev pub frame_size : Uplink → ℕ → ℕ
frame_size uplink c = unwrap_or (chosen (demand_of uplink c)) 0

-- the coded bits of a TTI of channel i in format f
abbrev pub bits_in : Side → ℕ → ℕ → ℕ
bits_in side i f = tti_bits (channel_at side i) (format_at (channel_at side i) f)

-- and after padding to whole radio frames
abbrev pub padded_in : Side → ℕ → ℕ → ℕ
padded_in side i f = padded (bits_in side i f) (channel_at side i).frames

-- the copies of bit m of channel i that radio frame n of its TTI sends in combination c
abbrev pub frame_copies : Uplink → ℕ → ℕ → ℕ → ℕ → ℕ
frame_copies uplink i n c m = copies (uplink_pattern uplink.side c (frame_size uplink c) i n).kind m

-- the copies of coded bit j that the uplink sends, where radio frame n of the TTI is sent in combination n of a
-- sequence: the bit goes by padding and the first interleaver to a place of a radio frame
unfoldable pub uplink_copies : Uplink → ℕ → ℕ → List ℕ → ℕ → ℕ
uplink_copies uplink i f sequence j =
    let frames = (channel_at uplink.side i).frames in
    let n = frame_of frames (padded_in uplink.side i f) j in
    frame_copies uplink i n (slice_index sequence n) (place_of frames (padded_in uplink.side i f) j)

-- the copies of coded bit j that the downlink sends, whatever the sequence
abbrev pub downlink_copies : Downlink → ℕ → ℕ → List ℕ → ℕ → ℕ
downlink_copies downlink i f sequence j = copies (pattern_of downlink i f).kind j

-- the flags tell which coded bits are sent at least once
abbrev pub AreSentFlags : (ℕ → ℕ) → List Bool → Type 0
AreSentFlags sent sent_flags = (j : ℕ) → j < length sent_flags → slice_index_or sent_flags j false ≡ nat_lt 0 (sent j)
