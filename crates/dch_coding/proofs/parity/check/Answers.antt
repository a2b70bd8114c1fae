use Rattle.std.proofs.Common.{◌≡◌, ◌-◌, ◌++◌, ℕ, List, length, take, reverse, arith, ap, subst, sym, ◌∙◌}
use Rattle.std.specs.Prelude.{◌↔◌, IsTrue}
use Rattle.std.proofs.lemmas.List.{append_cancel_left}
use Rattle.dch_bits.specs.declared.bit.Bit.{Bit}
use Rattle.dch_types.specs.Lengths.{crc_size}
use Rattle.dch_coding.specs.Parity.{IsAttached}
use Rattle.dch_coding.specs.Register.{lowest_bits, terms_of}
use Rattle.dch_coding.proofs.Attached.{attached, attached_back, terms_are, terms_first}
use Rattle.dch_coding.proofs.parity.check.Goals as goal

pub returns : goal.returns
returns c =
    let bits : List Bit = c.args.bits.now in
    let block : List Bit = c.split_at.result.0.now in
    let parity : List Bit = c.split_at.result.1.now in
    let degree : ℕ = crc_size c.args.kind in
    let n : ℕ = c.parity_of.result in
    let front : block ≡ take (length bits - crc_size c.args.kind) bits = c.split_at.ensures.front ∙ ap (λ k. take (length bits - k) bits) c.size.ensures in
    let long : length parity ≡ degree = omega (arith, c.split_at.ensures.back_len, c.size.ensures) in
    let whole : bits ≡ block ++ parity = c.split_at.ensures.by_index.0 in
    let P : List Bit → Type 0 = λ block. IsTrue c.is_reversed.result ↔ IsAttached c.args.kind block bits in
    subst P front (
      λ yes. attached c.args.kind degree (terms_of c.args.kind) n block bits (terms_are c.args.kind) c.parity_of.ensures (whole ∙ ap (λ p. block ++ p) (c.is_reversed.ensures.0 yes ∙ ap (λ k. reverse (lowest_bits k n)) long)),
      λ known. c.is_reversed.ensures.1
          (append_cancel_left block parity (reverse (lowest_bits (length parity) n))
          (sym whole ∙ attached_back c.args.kind degree (terms_of c.args.kind) n block bits (terms_are c.args.kind) (terms_first c.args.kind) c.parity_of.ensures known ∙ ap (λ k. block ++ reverse (lowest_bits k n)) (sym long))),
    )
