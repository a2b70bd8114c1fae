use Rattle.std.proofs.Common.{◌≡◌, ◌+◌, ◌-◌, ◌*◌, ◌^◌, ◌++◌, ℕ, List, take, drop, ap, ◌∙◌, sym, subst, arith, append_assoc}
use Rattle.std.proofs.Math.Seq.{take-add}
use Rattle.dch_bits.specs.declared.bit.Bit.{Bit}
use Rattle.dch_coding.specs.Register.{HoldsParity}
use Rattle.dch_coding.proofs.Tables.{word_after}
use Rattle.dch_coding.proofs.words.after_bits.Goals as goal

pub loop-i-preserved : goal.loop-i-preserved
loop-i-preserved c = λ terms a small are known.
    let n : ℕ = 32 * c.loop-i.i in
    let front : List Bit = take n c.args.bits.now in
    let part : List Bit = take 32 (drop n c.args.bits.now) in
    let more : 32 * (c.loop-i.i + 1) ≡ n + 32 = omega arith in
    let whole : front ++ part ≡ take (32 * (c.loop-i.i + 1)) c.args.bits.now = sym (take-add n 32 c.args.bits.now) ∙ ap (λ k. take k c.args.bits.now) (sym more) in
    let size : n + 32 - n ≡ 32 = omega arith in
    let after : HoldsParity 32 (2 ^ 32 + terms) ((a ++ front) ++ part) c.of_word-register.result =
    word_after terms c.loop-i.register c.word_of.result c.of_word-register.result (a ++ front) part (c.word_of.ensures ∙ ap (λ k. take k (drop n c.args.bits.now)) size) (c.loop-i.invariant terms a small are known)
    (c.of_word-register.ensures terms small are) in
    subst (λ block. HoldsParity 32 (2 ^ 32 + terms) block c.of_word-register.result) (append_assoc a front part ∙ ap (λ xs. a ++ xs) whole) after
