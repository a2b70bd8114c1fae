use Rattle.std.proofs.Common.{◌≡◌, take, reverse}
use Rattle.dch_coding.specs.Register.{lowest_bits}
use Rattle.dch_coding.proofs.parity.is_reversed.Given as goal

abbrev pub invariant-loop-i : goal.invariant-loop-i
invariant-loop-i l = take l.i l.bits ≡ reverse (lowest_bits l.i l.number)
