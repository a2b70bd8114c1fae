-- How many code blocks may lose bits by rate matching, each as often as there are legal sequences under which it may.
use Rattle.std.specs.Prelude.{◌+◌, ◌*◌, ◌==◌, ◌&&◌, ◌||◌, ℕ, zero, suc, Bool, false, length, nat_lt, if◌then◌else◌}
use Rattle.dch_types.specs.declared.channel.Side.{Side}
use Rattle.dch_types.specs.declared.config.Uplink.{Uplink}
use Rattle.dch_types.specs.declared.config.Downlink.{Downlink}
use Rattle.dch_types.specs.Lengths.{joined_bits, block_count}
use Rattle.dch_types.specs.Parts.{channel_at, format_at, format_number}
use Rattle.dch_frame.specs.declared.pattern.Kind.{Kind}
use Rattle.dch_frame.specs.Patterns.{copies}
use Rattle.dch_frame.specs.Uplinks.{before_of, sent_of}
use Rattle.dch_frame.specs.Downlinks.{pattern_of, stands_below}
use Rattle.dch_types.specs.Sums.{total}
use Rattle.dch_collision.specs.SequenceCounts.{legal_count}
use Rattle.dch_collision.specs.Copies.{frame_size, bits_in}

-- the code blocks of channel i in format f
abbrev pub blocks_in : Side → ℕ → ℕ → ℕ
blocks_in side i f = block_count (joined_bits (channel_at side i) (format_at (channel_at side i) f))
    (channel_at side i).coding

-- uplink combination c removes bits of channel i: a radio frame sends fewer than there are
abbrev pub removes : Uplink → ℕ → ℕ → Bool
removes uplink i c = nat_lt (sent_of uplink.side c (frame_size uplink c) i) (before_of uplink.side c i)

-- one of the first combinations gives channel i format f and removes bits of it
unfoldable pub removes_below : Uplink → ℕ → ℕ → ℕ → Bool
removes_below uplink i f zero = false
removes_below uplink i f (suc c) = (format_number uplink.side c i == f && removes uplink i c) ||
    removes_below uplink i f c

-- some legal sequence of the uplink removes bits of channel i in format f
abbrev pub uplink_punctures : Uplink → ℕ → ℕ → Bool
uplink_punctures uplink i f = removes_below uplink i f (length uplink.side.combinations)

-- of the first bits one has no copy
unfoldable pub punctures_below : Kind → ℕ → Bool
punctures_below kind zero = false
punctures_below kind (suc m) = copies kind m == 0 || punctures_below kind m

-- format f of channel i of the downlink stands in some combination, and its pattern removes a bit of it
abbrev pub downlink_punctures : Downlink → ℕ → ℕ → Bool
downlink_punctures downlink i f =
    stands_below downlink.side i f (length downlink.side.combinations) &&
    punctures_below (pattern_of downlink i f).kind (bits_in downlink.side i f)

-- the code blocks of an uplink format that are looked at for collisions, under each legal sequence: those of a format
-- that may lose bits
abbrev pub uplink_count : Uplink → ℕ → ℕ → ℕ
uplink_count uplink i f = if uplink_punctures uplink i f then legal_count uplink.side i f * blocks_in uplink.side i f
    else 0

-- and of a downlink format, once for all sequences
abbrev pub downlink_count : Downlink → ℕ → ℕ → ℕ
downlink_count downlink i f = if downlink_punctures downlink i f then blocks_in downlink.side i f else 0

-- the sum over all formats of channel i
abbrev pub in_channel : Side → (ℕ → ℕ → ℕ) → ℕ → ℕ
in_channel side number i = total (number i) (length (channel_at side i).formats)

-- and over all channels
abbrev pub over_formats : Side → (ℕ → ℕ → ℕ) → ℕ
over_formats side number = total (in_channel side number) (length side.channels)

-- how many code blocks may be punctured, each as often as there are legal sequences: the sum over both directions
abbrev pub search_count : Uplink → Downlink → ℕ
search_count uplink downlink = over_formats uplink.side (uplink_count uplink) +
    over_formats downlink.side (downlink_count downlink)
