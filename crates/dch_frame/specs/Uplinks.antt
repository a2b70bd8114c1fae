-- The size of an uplink radio frame, and the amounts of its channels (TS 25.212 4.2.7.1).
use Rattle.std.specs.Prelude.{◌≡◌, ◌<◌, ◌≤◌, ◌*◌, ◌==◌, ◌&&◌, ℕ, Bool, false, zero, suc, List, [], ◌∷◌, Option, Some, None, length, slice_index, filter, find, nat_le, nat_lt, min, if◌then◌else◌}
use Rattle.std.specs.Int.{div_ceil}
use Rattle.dch_types.specs.declared.channel.Side.{Side}
use Rattle.dch_types.specs.declared.config.Uplink.{Uplink}
use Rattle.dch_types.specs.Lengths.{tti_bits}
use Rattle.dch_types.specs.Limits.{frame_sizes}
use Rattle.dch_types.specs.Parts.{channel_at, format_at, format_number}
use Rattle.dch_types.specs.Sums.{total}
use Rattle.dch_frame.specs.declared.pattern.Pattern.{Pattern}
use Rattle.dch_frame.specs.declared.uplink_plan.Demand.{Demand}
use Rattle.dch_frame.specs.declared.uplink_plan.UplinkPlan.{UplinkPlan}
use Rattle.dch_frame.specs.Matched.{frame_pattern}
use Rattle.dch_frame.specs.Shares.{shared}

-- N: the bits of channel i in a radio frame of a combination, where the TTI is padded to whole frames
abbrev pub before_of : Side → ℕ → ℕ → ℕ
before_of side c i = div_ceil (tti_bits (channel_at side i) (format_at (channel_at side i) (format_number side c i)))
    (channel_at side i).frames

-- RM*N
abbrev pub weight_of : Side → ℕ → ℕ → ℕ
weight_of side c i = (channel_at side i).rm * before_of side c i

-- the bits of channel i that a frame of so many sends
abbrev pub sent_of : Side → ℕ → ℕ → ℕ → ℕ
sent_of side c ndata i = shared (weight_of side c) (length side.channels) ndata i

-- the pattern of channel i in frame n of its TTI
abbrev pub uplink_pattern : Side → ℕ → ℕ → ℕ → ℕ → Pattern
uplink_pattern side c ndata i n = frame_pattern (before_of side c i) (sent_of side c ndata i)
    (channel_at side i).frames n

-- the least RM of the first channels; of none, that of the first
unfoldable pub least_rm : Side → ℕ → ℕ
least_rm side zero = (channel_at side 0).rm
least_rm side (suc i) = min (least_rm side i) (channel_at side i).rm

-- what a combination asks of a frame
abbrev pub demand_of : Uplink → ℕ → Demand
demand_of uplink c = record {
  weight = total (weight_of uplink.side c) (length uplink.side.channels);
  least = least_rm uplink.side (length uplink.side.channels);
  largest = uplink.largest;
  pl = uplink.pl;
}

-- the codes that a size needs
abbrev pub codes : ℕ → ℕ
codes size = div_ceil size 9600

-- SET1: the sizes at which no channel is punctured
abbrev pub in_set1 : Demand → ℕ → Bool
in_set1 demand size = nat_le size demand.largest && nat_le demand.weight (demand.least * size)

-- SET2: those at which puncturing keeps to its limit
abbrev pub in_set2 : Demand → ℕ → Bool
in_set2 demand size = nat_le size demand.largest && nat_le (demand.pl * demand.weight) (100 * (demand.least * size))

-- the sizes of an uplink radio frame that may be taken with puncturing (SET2), in rising order
unfoldable pub set2 : Demand → List ℕ
set2 demand = filter (in_set2 demand) frame_sizes

-- a size raised while the next one needs no more codes
abbrev pub raised : ℕ → List ℕ → ℕ
raised size [] = size
raised size (next ∷ rest) = if nat_le (codes next) (codes size) then raised next rest else size

-- the first size of a list, raised; none of an empty list
abbrev pub first_raised : List ℕ → Option ℕ
first_raised [] = None
first_raised (size ∷ rest) = Some (raised size rest)

-- whether a size needs more codes than the one that is held
abbrev pub needs_more : Option ℕ → ℕ → Bool
needs_more None size = false
needs_more (Some before) size = nat_lt (codes before) (codes size)

-- whether there is a size, and it needs one code
abbrev pub one_code : Option ℕ → Bool
one_code None = false
one_code (Some size) = nat_le (codes size) 1

-- Ndata: the size of the frame; none is needed where there is nothing to send
unfoldable pub chosen : Demand → Option ℕ
chosen demand = let least = find (in_set1 demand) frame_sizes in if demand.weight == 0 then Some 0
    else (if one_code least then least else first_raised (set2 demand))

-- an uplink plan is that of TFC c: the size of its radio frame, and the amount of each channel
pub record IsPlan (uplink : Uplink) (c : ℕ) (plan : UplinkPlan) : Type 0 where
  pub size : chosen (demand_of uplink c) ≡ Some plan.ndata
  pub before : (i : ℕ) → i < length uplink.side.channels → slice_index plan.before i ≡ before_of uplink.side c i
  pub sent : (i : ℕ) → i < length uplink.side.channels → slice_index plan.sent i ≡ sent_of uplink.side c plan.ndata i
  pub no_more : (i : ℕ) → length uplink.side.channels ≤ i → (slice_index plan.before i ≡ 0)
      × (slice_index plan.sent i ≡ 0)
  pub most : plan.ndata ≤ uplink.largest
  pub all_sent : total (slice_index plan.sent) (length uplink.side.channels) ≡ plan.ndata
