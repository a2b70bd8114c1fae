use Rattle.std.proofs.Common.{◌≡◌, ◌-◌, ◌++◌, List, length, take, drop, ap, ap₂, ◌∙◌, sym, arith}
use Rattle.std.proofs.Math.Seq.{take-add}
use Rattle.std.proofs.lemmas.List.{take_all}
use Rattle.dch_bits.specs.declared.bit.Bit.{Bit}
use Rattle.dch_coding.proofs.words.word_of.Goals as goal

pub returns : goal.returns
returns c =
    let bits : List Bit = c.args.bits.now in
    let last : length bits - 24 ≡ 8 = omega arith in
    c.joined.ensures
    ∙ ap₂ (λ (x y : List Bit). x ++ y) (ap₂ (λ (x y : List Bit). x ++ y) (ap₂ (λ (x y : List Bit). x ++ y) c.octet_of.ensures c.octet_of-2.ensures) c.octet_of-3.ensures) (c.octet_of-4.ensures ∙ ap (λ n. take n (drop 24 bits)) last)
    ∙ ap (λ xs. (xs ++ take 8 (drop 16 bits)) ++ take 8 (drop 24 bits)) (sym (take-add 8 8 bits))
    ∙ ap (λ xs. xs ++ take 8 (drop 24 bits)) (sym (take-add 16 8 bits))
    ∙ sym (take-add 24 8 bits) ∙ take_all 32 bits (omega arith)
