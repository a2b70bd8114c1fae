use Rattle.std.proofs.Common.{◌*◌, ◌+◌, ◌^◌, ◌<◌, ◌++◌, ℕ, List, take}
use Rattle.dch_bits.specs.declared.bit.Bit.{Bit}
use Rattle.dch_coding.specs.Register.{HoldsParity, AreWords}
use Rattle.dch_coding.proofs.words.after_bits.Given as goal

abbrev pub invariant-loop-i : goal.invariant-loop-i
invariant-loop-i l = (terms : ℕ) (a : List Bit) → terms < 2 ^ 32 → AreWords terms l.words 1024 → HoldsParity 32 (2 ^ 32 + terms) a l.fn.register → HoldsParity 32 (2 ^ 32 + terms) (a ++ take (32 * l.i) l.bits) l.register
