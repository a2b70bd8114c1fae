-- Room for the greatest TTI is room for each.
use Rattle.std.proofs.Common.{◌≡◌, ◌+◌, ◌*◌, ◌/◌, ◌<◌, ◌≤◌, ℕ, zero, suc, List, max, length, refl, ap, sym, subst, arith, add-one, inl, inr}
use Rattle.std.specs.Int.{div_ceil}
use Rattle.std.proofs.Math.Nat.{le-div_iff_mul-le, mul-le-mul_left}
use Rattle.std.proofs.lemmas.Bool.{cases_eq}
use Rattle.dch_types.specs.declared.channel.Dir.{Dir}
use Rattle.dch_types.specs.declared.channel.Dir.TheVariants.{Down}
use Rattle.dch_types.specs.declared.channel.Side.{Side}
use Rattle.dch_types.specs.Lengths.{tti_bits}
use Rattle.dch_types.specs.Parts.{channel_at, format_at, side_of}
use Rattle.dch_coding.specs.Rooms.{Holds, HoldsSide, channel_room, format_room, wider}
use Rattle.dch_coding.specs.declared.room.CodingRoom.{CodingRoom}
use Rattle.dch_coding.proofs.Rooms.{channel_short, holds_channel, holds_over}
use Rattle.dch_frame.specs.declared.downlink_plan.RateMatching.{RateMatching}
use Rattle.dch_frame.specs.Downlinks.{matching_at}
use Rattle.dch_accept.specs.declared.room.TtiRoom.{TtiRoom}
use Rattle.dch_accept.specs.Plans.{Planned}
use Rattle.dch_accept.specs.Rooms.{HoldsTti, most_room, no_tti_room, places_below, rooms_below, tti_room, wider_tti}

-- room for what either of two directions wants holds the TTIs of both
pub holds_either : (one other : CodingRoom) (side : Side) → HoldsSide other side → HoldsSide (wider one other) side
holds_either one other side holds i f inside format =
    let held : Holds other (format_room (channel_at side i) (format_at (channel_at side i) f)) = holds i f inside format in
    record { bits = omega (arith, held.bits); code_block = omega (arith, held.code_block) }

pub places-zero : (plan : List (List RateMatching)) (i : ℕ) → places_below plan i 0 ≡ 0
unfolding places_below
places-zero plan i = refl

pub places-more : (plan : List (List RateMatching)) (i f : ℕ) → places_below plan i (f + 1) ≡ max (places_below plan i f) (matching_at plan i f).cells
unfolding places_below
places-more plan i f = rw add-one refl

-- no format has more places than the most
places_le : (plan : List (List RateMatching)) (i f n : ℕ) → f < n → (matching_at plan i f).cells ≤ places_below plan i n
unfolding places_below
places_le plan i f zero inside = absurd (omega arith)
places_le plan i f (suc n) inside = elim (cases_eq f n) [
  | inl same ↦ omega (arith, ap (λ f. (matching_at plan i f).cells) same)
  | inr other ↦ omega (arith, places_le plan i f n (omega (arith, other)))
]

pub rooms-zero : (planned : Planned) (dir : Dir) → rooms_below planned dir 0 ≡ no_tti_room
unfolding rooms_below
rooms-zero planned dir = refl

pub rooms-more : (planned : Planned) (dir : Dir) (i : ℕ) → rooms_below planned dir (i + 1) ≡ wider_tti (rooms_below planned dir i) (tti_room planned dir i)
unfolding rooms_below
rooms-more planned dir i = rw add-one refl

rooms_short : (planned : Planned) (dir : Dir) (n : ℕ) → (rooms_below planned dir n).coding.code_block ≤ 504
unfolding rooms_below
rooms_short planned dir zero = omega arith
rooms_short planned dir (suc n) = omega (arith, rooms_short planned dir n, channel_short (channel_at (side_of planned.config dir) n))

-- a code block that is coded has at most 504 bits
pub most_short : (planned : Planned) (dir : Dir) → (most_room planned dir).coding.code_block ≤ 504
most_short planned dir = rooms_short planned dir (length (side_of planned.config dir).channels)

holds_first : (one other : TtiRoom) → HoldsTti (wider_tti one other) one
holds_first one other = record {
  coding = record { bits = omega arith; code_block = omega arith };
  frame_bits = omega arith;
  cells = omega arith;
}

holds_second : (one other : TtiRoom) → HoldsTti (wider_tti one other) other
holds_second one other = record {
  coding = record { bits = omega arith; code_block = omega arith };
  frame_bits = omega arith;
  cells = omega arith;
}

over : (one other wanted : TtiRoom) → HoldsTti one other → HoldsTti other wanted → HoldsTti one wanted
over one other wanted holds is = record {
  coding = holds_over one.coding other.coding wanted.coding holds.coding is.coding;
  frame_bits = omega arith;
  cells = omega arith;
}

room_held : (planned : Planned) (dir : Dir) (i n : ℕ) → i < n → HoldsTti (rooms_below planned dir n) (tti_room planned dir i)
unfolding rooms_below
room_held planned dir i zero inside = absurd (omega arith)
room_held planned dir i (suc n) inside = elim (cases_eq i n) [
  | inl same ↦ subst (λ k. HoldsTti (wider_tti (rooms_below planned dir n) (tti_room planned dir n)) (tti_room planned dir k)) (sym same)
      (holds_second (rooms_below planned dir n) (tti_room planned dir n))
  | inr other ↦ over _ (rooms_below planned dir n) _ (holds_first (rooms_below planned dir n) (tti_room planned dir n)) (room_held planned dir i n (omega (arith, other)))
]

-- the room of a direction holds the TTIs of each channel
pub holds_tti : (planned : Planned) (dir : Dir) (i : ℕ) → i < length (side_of planned.config dir).channels → HoldsTti (most_room planned dir) (tti_room planned dir i)
holds_tti planned dir i inside = room_held planned dir i (length (side_of planned.config dir).channels) inside

-- and so each TTI is coded and decoded in it
pub holds_coding : (planned : Planned) (dir : Dir) (i f : ℕ) → i < length (side_of planned.config dir).channels → f < length (channel_at (side_of planned.config dir) i).formats
    → Holds (most_room planned dir).coding (format_room (channel_at (side_of planned.config dir) i) (format_at (channel_at (side_of planned.config dir) i) f))
holds_coding planned dir i f inside format =
    let channel = channel_at (side_of planned.config dir) i in
    holds_over (most_room planned dir).coding (channel_room channel) (format_room channel (format_at channel f)) (holds_tti planned dir i inside).coding (holds_channel channel f format)

-- the bits of a radio frame are those of a TTI over its frames
rows_le : (rows frames all : ℕ) → 0 < frames → rows * frames ≤ all → rows ≤ all / frames
rows_le rows frames all some fits = (le-div_iff_mul-le some).1 fits

pub frame_held : (planned : Planned) (dir : Dir) (i f : ℕ) → i < length (side_of planned.config dir).channels → f < length (channel_at (side_of planned.config dir) i).formats
    → 0 < (channel_at (side_of planned.config dir) i).frames
    → div_ceil (tti_bits (channel_at (side_of planned.config dir) i) (format_at (channel_at (side_of planned.config dir) i) f)) (channel_at (side_of planned.config dir) i).frames ≤ (most_room planned dir).frame_bits
frame_held planned dir i f inside format some =
    let channel = channel_at (side_of planned.config dir) i in
    omega (arith, rows_le (div_ceil (tti_bits channel (format_at channel f)) channel.frames) channel.frames (channel_room channel).bits some (holds_channel channel f format).bits, (holds_tti planned dir i inside).frame_bits)

-- a downlink channel has at most its most places
pub places_held : (planned : Planned) (i f : ℕ) → f < length (channel_at planned.config.downlink.side i).formats
    → (channel_at planned.config.downlink.side i).frames * (matching_at planned.downlink i f).cells ≤ (tti_room planned Down i).cells
places_held planned i f format = mul-le-mul_left (channel_at planned.config.downlink.side i).frames (places_le planned.downlink i f (length (channel_at planned.config.downlink.side i).formats) format)
