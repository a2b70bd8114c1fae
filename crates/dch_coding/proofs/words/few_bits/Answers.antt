use Rattle.std.proofs.Common.{◌≡◌, ◌+◌, ◌*◌, ◌^◌, ◌≤◌, ℕ, suc, get_or, arith, ap, ◌∙◌}
use Rattle.std.proofs.Math.Nat.{pow-le-pow_right, pow-suc}
use Rattle.dch_bits.specs.declared.bit.Bit.TheVariants.{Zero}
use Rattle.dch_bits.specs.Bits.{number_of}
use Rattle.dch_bits.proofs.Places.{number_below}
use Rattle.dch_coding.specs.Register.{lowest_bits}
use Rattle.dch_coding.proofs.Gathered.{bit_behind, lowest_bits-none}
use Rattle.dch_coding.proofs.words.few_bits.Goals as goal

pub overflow_mul-value : goal.overflow_mul-value
overflow_mul-value c =
    let power : 2 ^ c.loop-bit.bit-index ≤ 2 ^ 30 = pow-le-pow_right (omega arith) {i = c.loop-bit.bit-index} {j = 30} (omega arith) in
    omega (arith, power, c.loop-bit.invariant.small)

pub loop-bit-init : goal.loop-bit-init
loop-bit-init c = record { small = omega arith; bits = lowest_bits-none 0 }

pub loop-bit-preserved : goal.loop-bit-preserved
loop-bit-preserved c =
    let i : ℕ = c.loop-bit.bit-index in
    let one : i + 1 ≡ suc i = omega arith in
    let bit : c.from.result ≡ number_of (get_or c.args.bits.now i Zero) = c.from.ensures ∙ c.number.ensures in
    let power : 2 ^ (i + 1) ≡ 2 ^ i * 2 = ap (λ k. 2 ^ k) one ∙ pow-suc 2 i in
    record {
      small = omega (arith, power, bit, number_below (get_or c.args.bits.now i Zero), c.loop-bit.invariant.small);
      bits = ap (λ n. lowest_bits (i + 1) (c.loop-bit.value * 2 + n)) bit ∙ bit_behind c.args.bits.now i c.loop-bit.value (omega arith) c.loop-bit.invariant.bits;
    }
