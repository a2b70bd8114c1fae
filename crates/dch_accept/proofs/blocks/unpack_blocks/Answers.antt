use Rattle.std.proofs.Common.{◌≡◌, ◌+◌, ◌-◌, ◌*◌, ◌≤◌, ◌∙◌, ℕ, List, take, drop, arith, ap, ap₂, below_more}
use Rattle.std.specs.Int.{div_ceil}
use Rattle.std.proofs.lemmas.Grind.{div_ceil_times}
use Rattle.dch_bits.specs.declared.bit.Bit.{Bit}
use Rattle.dch_accept.specs.Padded.{bits_from}
use Rattle.dch_accept.proofs.Unpacked.{bits_from-part, part_before}
use Rattle.dch_accept.proofs.blocks.unpack_blocks.Goals as goal

pub loop-b-preserved : goal.loop-b-preserved
loop-b-preserved c =
    let octets : List ℕ = c.args.octets.now in
    let size : ℕ = c.args.size in
    let b : ℕ = c.loop-b.b in
    let out : List Bit = c.loop-b.out in
    let new : List Bit = c.unpack_block.new.out in
    let w : ℕ = div_ceil size 8 in
    let width : c.div_ceil-width.result ≡ w = c.div_ceil-width.ensures in
    let n : ℕ = b * c.div_ceil-width.result + c.div_ceil-width.result - b * c.div_ceil-width.result in
    let whole : n ≡ w = omega (arith, width) in
    let from : b * c.div_ceil-width.result ≡ b * w = ap (λ m. b * m) width in
    let covers : size ≤ w * 8 = (div_ceil_times size 8 (omega arith)).0 in
    let cut : take n (drop (b * c.div_ceil-width.result) octets) ≡ take w (drop (b * w) octets) = ap₂ (λ m k. take m (drop k octets)) whole from in
    below_more (λ q. take size (drop (q * size) new) ≡ bits_from octets (8 * (q * w)) size) b
    (λ q early. part_before new out size q b early c.unpack_block.ensures.before ∙ c.loop-b.invariant q early)
    (c.unpack_block.ensures.block ∙ ap (λ (os : List ℕ). bits_from os 0 size) cut ∙ bits_from-part octets (b * w) w size (omega (arith, covers)))
