use Rattle.std.proofs.Common.{◌+◌, ◌*◌, ◌^◌, ◌++◌, ℕ, List, get_or, map, ap, ◌∙◌, sym, subst, append_assoc}
use Rattle.std.specs.List.{range_with_len}
use Rattle.dch_bits.specs.declared.bit.Bit.{Bit}
use Rattle.dch_bits.specs.Octets.{bit_of_octets}
use Rattle.dch_coding.specs.Register.{lowest_bits, HoldsParity}
use Rattle.dch_coding.proofs.Tables.{word_after}
use Rattle.dch_coding.proofs.Gathered.{word_more}
use Rattle.dch_coding.proofs.words.after_octets.Goals as goal

pub loop-i-preserved : goal.loop-i-preserved
loop-i-preserved c = λ terms a small are known.
    let octets : List ℕ = c.args.octets.now in
    let n : ℕ = 4 * c.loop-i.i in
    let front : List Bit = map (bit_of_octets octets) (range_with_len 0 (32 * c.loop-i.i)) in
    let part : List Bit = ((lowest_bits 8 (get_or octets n 0) ++ lowest_bits 8 (get_or octets (n + 1) 0)) ++ lowest_bits 8 (get_or octets (n + 2) 0)) ++ lowest_bits 8 (get_or octets (n + 3) 0) in
    let after : HoldsParity 32 (2 ^ 32 + terms) ((a ++ front) ++ part) c.of_word-register.result =
    word_after terms c.loop-i.register c.joined-word.result c.of_word-register.result (a ++ front) part c.joined-word.ensures (c.loop-i.invariant terms a small are known)
    (c.of_word-register.ensures terms small are) in
    subst (λ block. HoldsParity 32 (2 ^ 32 + terms) block c.of_word-register.result) (append_assoc a front part ∙ ap (λ xs. a ++ xs) (sym (word_more octets c.loop-i.i))) after
