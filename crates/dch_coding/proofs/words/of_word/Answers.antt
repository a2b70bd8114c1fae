use Rattle.std.proofs.Common.{◌+◌, ◌*◌, ◌/◌, ◌%◌, ◌^◌, ℕ, get_or, subst, sym, arith}
use Rattle.std.specs.Int.Bits.{bit_xor}
use Rattle.dch_coding.specs.Register.{HoldsWord, word_at}
use Rattle.dch_coding.proofs.Tables.{word_none, word_sum, octet_more}
use Rattle.dch_coding.proofs.words.of_word.Goals as goal

pub loop-t-init : goal.loop-t-init
loop-t-init c = λ terms small are. subst (λ w. HoldsWord terms w 0) (omega arith) (word_none terms small)

pub loop-t-preserved : goal.loop-t-preserved
loop-t-preserved c = λ terms small are.
    let t : ℕ = c.loop-t.t in
    let word : ℕ = c.args.word in
    let sum : ℕ = c.loop-t.sum in
    let k : ℕ = 256 * t + word / 2 ^ (8 * t) % 256 in
    let entry : ℕ = get_or c.args.words.now k 0 in
    subst (λ w. HoldsWord terms w (bit_xor sum entry)) (sym (octet_more word t))
    (word_sum terms (word % 2 ^ (8 * t)) (word_at k) sum entry (c.loop-t.invariant terms small are) (are k (omega arith)))
