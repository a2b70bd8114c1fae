use Rattle.std.proofs.Common.{◌≡◌, ◌+◌, ◌-◌, ◌^◌, ◌++◌, ℕ, List, length, replicate, arith, ap, sym, subst, ◌∙◌}
use Rattle.dch_bits.specs.declared.bit.Bit.{Bit}
use Rattle.dch_bits.specs.declared.bit.Bit.TheVariants.{Zero}
use Rattle.dch_coding.specs.Register.{lowest_bits, HoldsParity}
use Rattle.dch_coding.proofs.Gathered.{lowest_bits-padded}
use Rattle.dch_coding.proofs.Tables.{fewer_zeros}
use Rattle.dch_coding.proofs.words.parity_of_bits.Goals as goal

pub returns : goal.returns
returns c = λ terms small are.
    let front : List Bit = c.split_at.result.0.now in
    let k : ℕ = length front in
    let w : ℕ = c.few_bits.result in
    let padded : lowest_bits 32 w ≡ replicate (32 - k) Zero ++ front =
    ap (λ n. lowest_bits n w) (omega arith) ∙ lowest_bits-padded (32 - k) k w c.few_bits.ensures.small ∙ ap (λ xs. replicate (32 - k) Zero ++ xs) c.few_bits.ensures.bits in
    let before : HoldsParity 32 (2 ^ 32 + terms) front c.of_word.result = fewer_zeros terms (32 - k) c.of_word.result (lowest_bits 32 w) front small padded (c.of_word.ensures terms small are) in
    subst (λ block. HoldsParity 32 (2 ^ 32 + terms) block c.after_bits.result) (sym c.split_at.ensures.by_index.0) (c.after_bits.ensures terms front small are before)
