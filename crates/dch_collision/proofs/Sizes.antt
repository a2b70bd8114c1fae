-- The sizes of a format.
use Rattle.std.proofs.Common.{◌≡◌, ◌<◌, ◌≤◌, ◌-◌, ◌*◌, ℕ, zero, suc, length, refl, ap, ap₂, sym, ◌∙◌, arith, inl, inr}
use Rattle.std.specs.Prelude.{◌==◌, Bool, true, false, if◌then◌else◌}
use Rattle.std.specs.Int.{div_ceil}
use Rattle.std.proofs.Math.Nat.{mul-le-mul_left}
use Rattle.std.proofs.lemmas.Grind.{div_ceil_times}
use Rattle.dch_types.specs.declared.channel.Coding.{Coding}
use Rattle.dch_types.specs.declared.channel.Coding.TheVariants.{Uncoded, Half, Third}
use Rattle.dch_types.specs.declared.channel.Side.{Side}
use Rattle.dch_types.specs.Lengths.{block_count, block_size, coded_block, coded_bits}
use Rattle.dch_types.specs.Limits.{IsChannel, IsFrames, IsSide}
use Rattle.dch_types.specs.Parts.{channel_at, format_at}
use Rattle.dch_types.proofs.Sizes.{block_count-some}
use Rattle.dch_coding.specs.declared.cut.Plan.{Plan}
use Rattle.dch_coding.specs.Segments.{plan_of}
use Rattle.dch_coding.proofs.Sizes.{size_short, filler_few}
use Rattle.dch_coding.proofs.Lengths.{blocks_short}
use Rattle.dch_coding.proofs.Rooms.{searched_is}
use Rattle.dch_coding.specs.Rooms.{Holds, format_room}
use Rattle.dch_coding.specs.declared.room.CodingRoom.{CodingRoom}
use Rattle.dch_collision.specs.Copies.{bits_in, padded_in}
use Rattle.dch_collision.proofs.FrameSizes.{some_frames}
use Rattle.dch_collision.specs.declared.shape.Shape.{Shape}
use Rattle.dch_collision.specs.Clear.{joined_in}
use Rattle.dch_collision.specs.Shapes.{Fits, IsShape}
use Rattle.dch_collision.proofs.Unpunctured.{bits_are, padded_more}

-- a TTI of at most 131,072 bits has no more after padding
padded_few : (bits frames : ℕ) → IsFrames frames → bits ≤ 131072 → div_ceil bits frames * frames ≤ 131072
padded_few bits frames (inl one) few = rw one (omega (arith, div_ceil_times bits 1 (omega arith)))
padded_few bits frames (inr (inl two)) few = rw two (omega (arith, div_ceil_times bits 2 (omega arith)))
padded_few bits frames (inr (inr (inl four))) few = rw four (omega (arith, div_ceil_times bits 4 (omega arith)))
padded_few bits frames (inr (inr (inr eight))) few = rw eight (omega (arith, div_ceil_times bits 8 (omega arith)))

-- a code block has no more bits than all of them
block_few : (x : ℕ) (coding : Coding) → block_size x (block_count x coding) ≤ block_count x coding * block_size x (block_count x coding)
block_few zero coding = omega arith
block_few (suc x) coding = times (block_count (suc x) coding) (block_size (suc x) (block_count (suc x) coding)) (block_count-some (suc x) coding (omega arith))
  where
    times : (a b : ℕ) → 0 < a → b ≤ a * b
    times zero b some = absurd (omega arith)
    times (suc a) b some = omega arith

filler_fits : (x : ℕ) (coding : Coding) → block_count x coding * block_size x (block_count x coding) - x ≤ block_size x (block_count x coding)
filler_fits zero Uncoded = omega arith
filler_fits zero Half = omega arith
filler_fits zero Third = omega arith
filler_fits (suc x) coding = omega (arith, filler_few (suc x) coding (omega arith))

halved : (a b : ℕ) → 2 ≤ b → a * b ≤ 131072 → a ≤ 65536
halved a b two few = let less : a * 2 ≤ a * b = mul-le-mul_left a two in omega arith

-- code blocks that are coded have two coded bits at least
few_are : (x : ℕ) (coding : Coding) → coded_bits coding x ≤ 131072 → block_count x coding ≤ 65536
few_are x Uncoded few = one (block_count x Uncoded) (x == 0) refl
  where
    one : (n : ℕ) (b : Bool) → n ≡ (if b then 0 else 1) → n ≤ 65536
    one n true is = omega arith
    one n false is = omega arith
few_are x Half few = halved (block_count x Half) (coded_block Half (block_size x (block_count x Half))) (omega arith) few
few_are x Third few = halved (block_count x Third) (coded_block Third (block_size x (block_count x Third))) (omega arith) few

format_few : (side : Side) (i f : ℕ) → bits_in side i f ≡ coded_bits (channel_at side i).coding (joined_in side i f)
format_few side i f = bits_are side i f

pub shape_is : (side : Side) (i f : ℕ) (shape : Shape) → IsSide side → i < length side.channels → f < length (channel_at side i).formats
    → shape.coding ≡ (channel_at side i).coding → shape.plan ≡ plan_of (joined_in side i f) (channel_at side i).coding → shape.bits ≡ bits_in side i f → shape.padded ≡ padded_in side i f → IsShape side i f shape
shape_is side i f shape good channel format coding plan bits padded =
    let code : Coding = (channel_at side i).coding in
    let x : ℕ = joined_in side i f in
    let count : shape.plan.blocks ≡ block_count x code = ap (λ (p : Plan). p.blocks) plan in
    let size : shape.plan.size ≡ block_size x (block_count x code) = ap (λ (p : Plan). p.size) plan in
    let filler : shape.plan.filler ≡ block_count x code * block_size x (block_count x code) - x = ap (λ (p : Plan). p.filler) plan in
    let is : IsChannel (channel_at side i) = good.channels i channel in
    let few : bits_in side i f ≤ 131072 = (is.formats f format).bits in
    record {
      coding = coding;
      plan = plan;
      bits = bits;
      padded = padded;
      whole = ap₂ (λ (a b : ℕ). a * b) count (ap₂ coded_block coding size) ∙ sym (bits_are side i f) ∙ sym bits;
      fits = omega (arith, bits, padded, padded_more (bits_in side i f) (channel_at side i).frames (some_frames (channel_at side i).frames is.frames));
      few = omega (arith, padded, padded_few (bits_in side i f) (channel_at side i).frames is.frames few);
      within = omega (arith, size, padded, block_few x code, blocks_short x code, format_few side i f, padded_more (bits_in side i f) (channel_at side i).frames (some_frames (channel_at side i).frames is.frames));
      few_blocks = omega (arith, count, few_are x code (omega (arith, format_few side i f, few)));
      filler = omega (arith, size, filler, filler_fits x code);
      short = λ coded. omega (arith, size, size_short x code (λ un. coded (coding ∙ un)));
    }

-- where there is room for a format, there is room to search in it
pub shape_fits : (side : Side) (i f : ℕ) (shape : Shape) (room : CodingRoom) → IsShape side i f shape → Holds room (format_room (channel_at side i) (format_at (channel_at side i) f)) → Fits room shape
shape_fits side i f shape room is holds =
    let code : Coding = (channel_at side i).coding in
    let x : ℕ = joined_in side i f in
    record {
      bits = omega (arith, is.padded, holds.bits);
      block = λ coded. omega (arith, ap (λ (p : Plan). p.size) is.plan, searched_is code x (λ un. coded (is.coding ∙ un)), holds.code_block);
    }
