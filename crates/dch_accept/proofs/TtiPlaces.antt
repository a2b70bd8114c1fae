-- The most places of a TTI.
use Rattle.std.proofs.Common.{◌≡◌, ◌<◌, ◌≤◌, ◌+◌, ◌*◌, ◌/◌, ℕ, Bool, true, false, cond, length, refl, arith, inl, inr}
use Rattle.std.specs.Int.{div_ceil}
use Rattle.std.proofs.Math.Nat.{mul-zero, zero-div, zero-mod, mul-le-mul_left, div-mul-le_self}
use Rattle.std.proofs.lemmas.Bool.{cases_eq}
use Rattle.std.proofs.lemmas.Nat.{mul-le}
use Rattle.std.proofs.lemmas.Grind.{div_ceil_times}
use Rattle.dch_types.specs.declared.channel.Side.{Side}
use Rattle.dch_types.specs.declared.config.Downlink.{Downlink}
use Rattle.dch_types.specs.Lengths.{frame_bits, tti_bits}
use Rattle.dch_types.specs.Limits.{IsDownlink, IsFrames, IsSide}
use Rattle.dch_types.specs.Parts.{channel_at, format_at}
use Rattle.dch_frame.specs.Downlinks.{eighths, first_places, fixed_places, fixed_weight, flexible_weight, greatest, places_after, places_of, stands_below}
use Rattle.dch_frame.proofs.Greatest.{ceil_le, stands_le}
use Rattle.dch_frame.proofs.Lowered.{after_le}
use Rattle.dch_frame.proofs.SharesLemmas.{shared_le}

-- the places of a radio frame are enough for the most of any
frame_room : (downlink : Downlink) → IsDownlink downlink → frame_bits downlink ≤ 57240
frame_room downlink good = mul-le (15 * downlink.slot_bits) downlink.codes 19080 3 (omega (arith, good.few_bits)) good.few_codes

-- eight radio frames at most
times_room : (frames places : ℕ) → IsFrames frames → places ≤ 57240 → frames * places ≤ 457920
times_room frames places is few = mul-le frames places 8 57240 (omega (arith, is)) few

-- the places of a format that stands in no combination
whole_room : (frames bits : ℕ) → IsFrames frames → bits ≤ 131072 → frames * div_ceil (8 * bits / frames) 8 ≤ 457920
whole_room frames bits is few =
    let low : frames ≤ 8 = omega (arith, is) in
    let e : ℕ = 8 * bits / frames in
    let d : ℕ = div_ceil e 8 in
    let up : d * 8 ≤ e + 8 = omega (arith, (div_ceil_times e 8 (omega arith)).1) in
    let times : frames * (d * 8) ≤ frames * (e + 8) = mul-le-mul_left frames up in
    let down : e * frames ≤ 8 * bits = div-mul-le_self (8 * bits) frames in
    omega (arith, times, down, low, few)

share_room : (weight most ndata : ℕ) → weight ≤ most → ndata ≤ 57240 → div_ceil (ndata * weight) most ≤ 57240
share_room weight most ndata order small = elim (cases_eq weight 0) [
  | inl none ↦ rw (none, mul-zero, zero-div, zero-mod) (omega arith)
  | inr some ↦ omega (arith, ceil_le ndata weight most order (omega (arith, some)))
]

either_room : (b : Bool) (frames x y : ℕ) → (b ≡ true → frames * x ≤ 457920) → frames * y ≤ 457920 → frames * cond b x y ≤ 457920
either_room true frames x y here there = here refl
either_room false frames x y here there = there

first_room : (side : Side) (ndata i f : ℕ) → IsSide side → ndata ≤ 57240 → i < length side.channels → f < length (channel_at side i).formats → (channel_at side i).frames * first_places side ndata i f ≤ 457920
first_room side ndata i f good small inside format =
    let frames : ℕ = (channel_at side i).frames in
    let weight : ℕ = flexible_weight side i f in
    let is : IsFrames frames = (good.channels i inside).frames in
    either_room (stands_below side i f (length side.combinations)) frames (div_ceil (ndata * weight) (greatest side)) (div_ceil (eighths (channel_at side i) f) 8)
    (λ found. times_room frames (div_ceil (ndata * weight) (greatest side)) is (share_room weight (greatest side) ndata (stands_le side i f (length side.combinations) inside found) small))
    (whole_room frames (tti_bits (channel_at side i) (format_at (channel_at side i) f)) is ((good.channels i inside).formats f format).bits)

-- the places of a format in all radio frames of a TTI
pub tti_room : (downlink : Downlink) (i f : ℕ) → IsDownlink downlink → i < length downlink.side.channels → f < length (channel_at downlink.side i).formats → (channel_at downlink.side i).frames * places_of downlink i f ≤ 457920
tti_room downlink i f good inside format =
    let side : Side = downlink.side in
    let ndata : ℕ = frame_bits downlink in
    let frames : ℕ = (channel_at side i).frames in
    let small : ndata ≤ 57240 = frame_room downlink good in
    let is : IsFrames frames = (good.side.channels i inside).frames in
    let after : ℕ = places_after side ndata (length side.combinations) i f in
    let down : frames * after ≤ frames * first_places side ndata i f = mul-le-mul_left frames (after_le side ndata (length side.combinations) i f) in
    either_room downlink.fixed frames (fixed_places side ndata i) after
    (λ _. times_room frames (fixed_places side ndata i) is (omega (arith, small, shared_le (fixed_weight side) (length side.channels) ndata i inside)))
    (omega (arith, down, first_room side ndata i f good.side small inside format))
