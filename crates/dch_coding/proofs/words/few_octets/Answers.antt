use Rattle.std.proofs.Common.{◌≡◌, ◌+◌, ◌*◌, ◌^◌, ◌<◌, ◌≤◌, ◌++◌, ℕ, List, map, get_or, arith, ap, sym, ◌∙◌, append_assoc}
use Rattle.std.specs.List.{range_with_len}
use Rattle.std.proofs.Math.Nat.{pow-le-pow_right}
use Rattle.std.proofs.lemmas.Nat.{pow-add}
use Rattle.dch_bits.specs.Octets.{bit_of_octets}
use Rattle.dch_coding.specs.Register.{lowest_bits}
use Rattle.dch_coding.proofs.Gathered.{octet_behind, octet_more}
use Rattle.dch_coding.proofs.words.few_octets.Goals as goal

pub overflow_mul-number : goal.overflow_mul-number
overflow_mul-number c =
    let octets : ℕ = c.loop-octet.octet-index in
    let power : 2 ^ (8 + 8 * octets) ≤ 2 ^ 24 = pow-le-pow_right (omega arith) {i = 8 + 8 * octets} {j = 24} (omega arith) in
    omega (arith, power, c.loop-octet.invariant.small)

pub loop-octet-preserved : goal.loop-octet-preserved
loop-octet-preserved c =
    let octets : List ℕ = c.args.octets.now in
    let i : ℕ = c.loop-octet.octet-index in
    let n : ℕ = c.loop-octet.number in
    let count : ℕ = 8 + 8 * i in
    let d : ℕ = get_or octets i 0 in
    let more : 8 + 8 * (i + 1) ≡ count + 8 = omega arith in
    let octet : c.from.result ≡ d = c.from.ensures in
    let power : 2 ^ (count + 8) ≡ 2 ^ count * 256 = pow-add 2 count 8 in
    let low : d < 256 = omega (arith, octet) in
    record {
      small = rw (more, octet) (omega (arith, power, low, c.loop-octet.invariant.small));
      bits = ap (λ k. lowest_bits k (n * 256 + c.from.result)) more ∙ ap (λ d. lowest_bits (count + 8) (n * 256 + d)) octet ∙ octet_behind count n d low
          ∙ ap (λ xs. xs ++ lowest_bits 8 d) c.loop-octet.invariant.bits ∙ append_assoc (lowest_bits 8 c.args.first) (map (bit_of_octets octets) (range_with_len 0 (8 * i))) (lowest_bits 8 d)
          ∙ ap (λ xs. lowest_bits 8 c.args.first ++ xs) (sym (octet_more octets i));
    }
