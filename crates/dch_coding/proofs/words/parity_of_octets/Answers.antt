use Rattle.std.proofs.Common.{◌≡◌, ◌+◌, ◌-◌, ◌*◌, ◌^◌, ◌≤◌, ◌++◌, ℕ, List, length, map, replicate, get_or, drop, arith, ap, ap₂, subst, ◌∙◌, append_assoc}
use Rattle.std.specs.List.{range_with_len}
use Rattle.std.proofs.lemmas.List.{get_or-take}
use Rattle.dch_bits.specs.declared.bit.Bit.{Bit}
use Rattle.dch_bits.specs.declared.bit.Bit.TheVariants.{Zero}
use Rattle.dch_bits.specs.Octets.{bit_of_octets}
use Rattle.dch_coding.specs.Parity.{bits_of_octets}
use Rattle.dch_coding.specs.Register.{lowest_bits, HoldsParity}
use Rattle.dch_coding.proofs.Gathered.{bits_of_octets-parts, lowest_bits-padded, octets_same}
use Rattle.dch_coding.proofs.Tables.{fewer_zeros}
use Rattle.dch_coding.proofs.words.parity_of_octets.Goals as goal

pub returns : goal.returns
returns c = λ terms small are.
    let octets : List ℕ = c.args.octets.now in
    let front : List ℕ = c.split_at.result.0.now in
    let rest : List ℕ = c.split_at.result.1.now in
    let k : ℕ = length front in
    let inside : k ≤ length octets = omega arith in
    let first : List Bit = lowest_bits 8 c.args.first in
    let w : ℕ = c.few_octets.result in
    let padded : lowest_bits 32 w ≡ replicate (32 - (8 + 8 * k)) Zero ++ (first ++ bits_of_octets front) =
    ap (λ n. lowest_bits n w) (omega arith) ∙ lowest_bits-padded (32 - (8 + 8 * k)) (8 + 8 * k) w c.few_octets.ensures.small
    ∙ ap (λ xs. replicate (32 - (8 + 8 * k)) Zero ++ xs) c.few_octets.ensures.bits in
    let before : HoldsParity 32 (2 ^ 32 + terms) (first ++ bits_of_octets front) c.of_word.result =
    fewer_zeros terms (32 - (8 + 8 * k)) c.of_word.result (lowest_bits 32 w) (first ++ bits_of_octets front) small padded (c.of_word.ensures terms small are) in
    let after : HoldsParity 32 (2 ^ 32 + terms) ((first ++ bits_of_octets front) ++ bits_of_octets rest) c.after_octets.result =
    c.after_octets.ensures terms (first ++ bits_of_octets front) small are before in
    let fronts : bits_of_octets front ≡ map (bit_of_octets octets) (range_with_len 0 (8 * k)) =
    octets_same front octets k (λ n below. ap (λ xs. get_or xs n 0) c.split_at.ensures.front ∙ get_or-take _ octets n 0 (omega arith)) in
    let whole : bits_of_octets front ++ bits_of_octets rest ≡ bits_of_octets octets =
    ap₂ (λ x y. x ++ bits_of_octets y) fronts (c.split_at.ensures.back ∙ ap (λ n. drop n octets) (omega arith)) ∙ bits_of_octets-parts octets k inside in
    subst (λ block. HoldsParity 32 (2 ^ 32 + terms) block c.after_octets.result) (append_assoc first (bits_of_octets front) (bits_of_octets rest) ∙ ap (λ xs. first ++ xs) whole) after
