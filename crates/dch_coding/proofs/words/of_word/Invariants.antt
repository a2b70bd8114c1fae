use Rattle.std.proofs.Common.{◌*◌, ◌%◌, ◌^◌, ◌<◌, ℕ}
use Rattle.dch_coding.specs.Register.{HoldsWord, AreWords}
use Rattle.dch_coding.proofs.words.of_word.Given as goal

abbrev pub invariant-loop-t : goal.invariant-loop-t
invariant-loop-t l = (terms : ℕ) → terms < 2 ^ 32 → AreWords terms l.words 1024 → HoldsWord terms (l.word % 2 ^ (8 * l.t)) l.sum
