-- The amounts and patterns of the downlink (TS 25.212 4.2.7.2).
use Rattle.std.specs.Prelude.{◌≡◌, ◌<◌, ◌≤◌, ◌*◌, ◌/◌, ◌==◌, ◌||◌, ◌&&◌, ℕ, Bool, zero, suc, false, List, [], min, max, length, nat_lt, slice_index_or, if◌then◌else◌}
use Rattle.std.specs.Int.{div_ceil}
use Rattle.dch_types.specs.declared.channel.Trch.{Trch}
use Rattle.dch_types.specs.declared.channel.Side.{Side}
use Rattle.dch_types.specs.declared.config.Downlink.{Downlink}
use Rattle.dch_types.specs.Lengths.{frame_bits, tti_bits}
use Rattle.dch_types.specs.Parts.{channel_at, format_at, format_number}
use Rattle.dch_types.specs.Sums.{total}
use Rattle.dch_frame.specs.declared.pattern.Kind.TheVariants.{Same}
use Rattle.dch_frame.specs.declared.pattern.Pattern.{Pattern}
use Rattle.dch_frame.specs.declared.downlink_plan.RateMatching.{RateMatching}
use Rattle.dch_frame.specs.Matched.{matched}
use Rattle.dch_frame.specs.Patterns.{copies_below, IsWellFormed}
use Rattle.dch_frame.specs.Shares.{shared}

-- the greatest TTI over the first formats
unfoldable pub most_below : Trch → ℕ → ℕ
most_below channel zero = 0
most_below channel (suc f) = max (most_below channel f) (tti_bits channel (format_at channel f))

-- Nmax: the coded bits of the greatest TTI
abbrev pub most_of : Trch → ℕ
most_of channel = most_below channel (length channel.formats)

-- RM*N in eighths at fixed positions, where N is Nmax over the frames of a TTI
abbrev pub fixed_weight : Side → ℕ → ℕ
fixed_weight side i = (channel_at side i).rm * (8 * most_of (channel_at side i) / (channel_at side i).frames)

-- the places of channel i in a radio frame at fixed positions
abbrev pub fixed_places : Side → ℕ → ℕ → ℕ
fixed_places side ndata i = shared (fixed_weight side) (length side.channels) ndata i

-- N in eighths at flexible positions: the bits of a format in a radio frame
abbrev pub eighths : Trch → ℕ → ℕ
eighths channel f = 8 * tti_bits channel (format_at channel f) / channel.frames

-- RM*N in eighths
abbrev pub flexible_weight : Side → ℕ → ℕ → ℕ
flexible_weight side i f = (channel_at side i).rm * eighths (channel_at side i) f

-- RM*N of channel i in combination c
abbrev pub combined : Side → ℕ → ℕ → ℕ
combined side c i = flexible_weight side i (format_number side c i)

-- the greatest sum of RM*N over the first combinations
unfoldable pub greatest_below : Side → ℕ → ℕ
greatest_below side zero = 0
greatest_below side (suc c) = max (greatest_below side c) (total (combined side c) (length side.channels))

-- and over all combinations
abbrev pub greatest : Side → ℕ
greatest side = greatest_below side (length side.combinations)

-- whether a format of channel i stands in one of the first combinations
unfoldable pub stands_below : Side → ℕ → ℕ → ℕ → Bool
stands_below side i f zero = false
stands_below side i f (suc c) = format_number side c i == f || stands_below side i f c

-- the places of a format in a radio frame before any is lowered: RF*N/F rounded up, where RF is Ndata*RM over the
-- greatest sum, and 1 for a format that stands in no combination
abbrev pub first_places : Side → ℕ → ℕ → ℕ → ℕ
first_places side ndata i f = if stands_below side i f (length side.combinations)
    then div_ceil (ndata * flexible_weight side i f) (greatest side) else div_ceil (eighths (channel_at side i) f) 8

-- whether the places of combination c exceed a radio frame
abbrev pub exceeds : (ℕ → ℕ → ℕ) → Side → ℕ → ℕ → Bool
exceeds places side ndata c = nat_lt ndata (total (λ i. places i (format_number side c i)) (length side.channels))

-- the places after the first combinations were looked at: where one exceeds a radio frame, each of its formats is
-- lowered to its share of it
unfoldable pub places_after : Side → ℕ → ℕ → ℕ → ℕ → ℕ
places_after side ndata zero i f = first_places side ndata i f
places_after side ndata (suc c) i f = if (exceeds (places_after side ndata c) side ndata c &&
    format_number side c i == f) then min (places_after side ndata c i f)
    (shared (combined side c) (length side.channels) ndata i) else places_after side ndata c i f

-- the places of format f of channel i in a radio frame
abbrev pub places_of : Downlink → ℕ → ℕ → ℕ
places_of downlink i f = if downlink.fixed then fixed_places downlink.side (frame_bits downlink) i
    else places_after downlink.side (frame_bits downlink) (length downlink.side.combinations) i f

-- how many bits the pattern of a format is made for: at fixed positions those of the greatest format
abbrev pub bits_of : Downlink → ℕ → ℕ → ℕ
bits_of downlink i f = if downlink.fixed then most_of (channel_at downlink.side i)
    else tti_bits (channel_at downlink.side i) (format_at (channel_at downlink.side i) f)

-- the pattern of a TTI, which is cut at the format's own length
abbrev pub pattern_of : Downlink → ℕ → ℕ → Pattern
pattern_of downlink i f = record {
  len = tti_bits (channel_at downlink.side i) (format_at (channel_at downlink.side i) f);
  kind = matched (bits_of downlink i f) ((channel_at downlink.side i).frames * places_of downlink i f) 1;
}

-- channel i of a plan: a matching for each format
abbrev pub row_at : List (List RateMatching) → ℕ → List RateMatching
row_at rows i = slice_index_or rows i []

-- what stands for a format that is not there
abbrev pub no_matching : RateMatching
no_matching = record { pattern = record { len = 0; kind = Same }; cells = 0 }

-- the matching of format f of channel i
abbrev pub matching_at : List (List RateMatching) → ℕ → ℕ → RateMatching
matching_at rows i f = slice_index_or (row_at rows i) f no_matching

-- a matching is that of format f of channel i
pub record IsMatching (downlink : Downlink) (i f : ℕ) (matching : RateMatching) : Type 0 where
  pub pattern : matching.pattern ≡ pattern_of downlink i f
  pub cells : matching.cells ≡ places_of downlink i f
  pub formed : IsWellFormed matching.pattern
  pub fits : copies_below matching.pattern.kind matching.pattern.len ≤
      (channel_at downlink.side i).frames * matching.cells

-- the matchings of the first formats of channel i
pub record IsRow (downlink : Downlink) (i formats : ℕ) (row : List RateMatching) : Type 0 where
  pub width : length row ≡ formats
  pub matchings : (f : ℕ) → f < formats → IsMatching downlink i f (slice_index_or row f no_matching)

-- a plan is that of the downlink: it has a matching for each format of each channel, and no combination exceeds a frame
pub record IsDownlinkPlan (downlink : Downlink) (plan : List (List RateMatching)) : Type 0 where
  pub channels : length plan ≡ length downlink.side.channels
  pub rows : (i : ℕ) → i < length downlink.side.channels
      → IsRow downlink i (length (channel_at downlink.side i).formats) (row_at plan i)
  pub room : (c : ℕ) → c < length downlink.side.combinations
      → total (λ i. (matching_at plan i (format_number downlink.side c i)).cells)
      (length downlink.side.channels) ≤ frame_bits downlink
