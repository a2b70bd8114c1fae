use Rattle.std.proofs.Common.{◌*◌, ◌+◌, ◌^◌, ◌<◌, ◌++◌, ℕ, List, map}
use Rattle.std.specs.List.{range_with_len}
use Rattle.dch_bits.specs.declared.bit.Bit.{Bit}
use Rattle.dch_bits.specs.Octets.{bit_of_octets}
use Rattle.dch_coding.specs.Register.{HoldsParity, AreWords}
use Rattle.dch_coding.proofs.words.after_octets.Given as goal

abbrev pub invariant-loop-i : goal.invariant-loop-i
invariant-loop-i l = (terms : ℕ) (a : List Bit) → terms < 2 ^ 32 → AreWords terms l.words 1024 → HoldsParity 32 (2 ^ 32 + terms) a l.fn.register → HoldsParity 32 (2 ^ 32 + terms) (a ++ map (bit_of_octets l.octets) (range_with_len 0 (32 * l.i))) l.register
