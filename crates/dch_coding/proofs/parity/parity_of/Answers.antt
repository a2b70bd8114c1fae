use Rattle.std.proofs.Common.{◌≡◌, ◌+◌, ◌-◌, ◌/◌, ◌^◌, ℕ, arith, ap, sym, subst, ◌∙◌}
use Rattle.std.proofs.lemmas.Nat.{shr-shr}
use Rattle.dch_types.specs.Lengths.{crc_size}
use Rattle.dch_coding.specs.Register.{HoldsParity, aligned_terms, terms_of}
use Rattle.dch_coding.proofs.Aligned.{narrowed}
use Rattle.dch_coding.proofs.Attached.{aligned_small, crc_small, terms_aligned}
use Rattle.dch_coding.proofs.parity.parity_of.Goals as goal

pub returns : goal.returns
returns c =
    let kind = c.args.kind in
    let register : ℕ = c.parity_of_bits.result in
    let size : ℕ = crc_size kind in
    let place : 31 - size + 1 ≡ 32 - size = omega (arith, crc_small kind) in
    let shifted : register / 2 ^ (31 - c.size.result) / 2 ≡ register / 2 ^ (32 - size) = ap (λ k. register / 2 ^ (31 - k) / 2) c.size.ensures ∙ shr-shr register (31 - size) 1 ∙ ap (λ e. register / 2 ^ e) place in
    subst (λ n. HoldsParity size (terms_of kind) c.args.block.now n) (sym shifted)
    (narrowed size (32 - size) (terms_of kind) (aligned_terms kind) register c.args.block.now (omega (arith, crc_small kind)) (terms_aligned kind) (c.parity_of_bits.ensures (aligned_terms kind) (aligned_small kind) c.crc_words.ensures))
