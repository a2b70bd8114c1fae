-- How long the code of a transport block can be.
use Rattle.std.proofs.Common.{◌≡◌, ◌+◌, ◌*◌, ◌≤◌, ◌<◌, ℕ, zero, suc, arith}
use Rattle.std.specs.Int.{div_ceil}
use Rattle.std.proofs.lemmas.Grind.{div_ceil_times}
use Rattle.std.proofs.lemmas.Bool.Decides.{nat_tests}
use Rattle.std.proofs.Math.Nat.{mul-le-mul_left}
use Rattle.dch_types.specs.declared.channel.Coding.{Coding}
use Rattle.dch_types.specs.declared.channel.Format.{Format}
use Rattle.dch_types.specs.declared.channel.Trch.{Trch}
use Rattle.dch_types.specs.declared.channel.Coding.TheVariants.{Uncoded, Half, Third}
use Rattle.dch_types.specs.Lengths.{block_count, block_size, coded_block, coded_bits, joined_bits, tti_bits}
use Rattle.dch_types.proofs.Sizes.{coded_block-le, block_count-le, block_count-some, block_size-times}

few_blocks : (x : ℕ) (coding : Coding) → x ≤ 5024 → block_count x coding ≤ 10
few_blocks x Uncoded short = grind (arith, nat_tests)
few_blocks x Half short = omega arith
few_blocks x Third short = omega arith

-- and few filler bits
pub few_filled : (x : ℕ) (coding : Coding) → x ≤ 5024 → block_count x coding * block_size x (block_count x coding) ≤ 5034
few_filled x coding short =
    let count : ℕ = block_count x coding in
    let few : count ≤ 10 = few_blocks x coding short in
    let filled : count * block_size x count ≤ x + count = block_size-times x count (block_count-le x coding) (block_count-some x coding) in
    omega (arith, few, filled)

pub few_coded : (x : ℕ) (coding : Coding) → x ≤ 5024 → coded_bits coding x ≤ 15342
few_coded x coding short =
    let count : ℕ = block_count x coding in
    let size : ℕ = block_size x count in
    let few : count ≤ 10 = few_blocks x coding short in
    let filled : count * size ≤ x + count = block_size-times x count (block_count-le x coding) (block_count-some x coding) in
    let most : count * coded_block coding size ≤ count * (3 * (size + 8)) = mul-le-mul_left count (coded_block-le coding size) in
    omega (arith, few, filled, most)

coded_block-ge : (coding : Coding) (k : ℕ) → k ≤ coded_block coding k
coded_block-ge Uncoded k = omega arith
coded_block-ge Half k = omega arith
coded_block-ge Third k = omega arith

blocks_hold : (x count : ℕ) → (0 < x → 0 < count) → x ≤ count * block_size x count
blocks_hold zero count some = omega arith
blocks_hold (suc x) count some =
    let same : block_size (suc x) count ≡ div_ceil (suc x) count = grind (arith, nat_tests) in
    rw same (enough (div_ceil (suc x) count) (div_ceil_times (suc x) count (some (omega arith))).0)
  where
    enough : (d : ℕ) → suc x ≤ d * count → suc x ≤ count * d
    enough d least = omega (arith, least)

-- code blocks are no longer than what they become
pub blocks_short : (x : ℕ) (coding : Coding) → block_count x coding * block_size x (block_count x coding) ≤ coded_bits coding x
blocks_short x coding = mul-le-mul_left (block_count x coding) (coded_block-ge coding (block_size x (block_count x coding)))

-- nor are the joined bits of a TTI
pub joined_short : (channel : Trch) (format : Format) → joined_bits channel format ≤ tti_bits channel format
unfolding tti_bits
joined_short channel format =
    let x : ℕ = joined_bits channel format in
    let held : x ≤ block_count x channel.coding * block_size x (block_count x channel.coding) = blocks_hold x (block_count x channel.coding) (block_count-some x channel.coding) in
    omega (arith, held, blocks_short x channel.coding)
