use Rattle.std.proofs.Common.{◌≡◌, ◌++◌, take, string_bytes}
use Rattle.dch_check.specs.Acceptance.{letters}
use Rattle.dch_check.proofs.acceptance.push_letters.Given as goal

abbrev pub invariant-loop-bit : goal.invariant-loop-bit
invariant-loop-bit l = string_bytes l.line ≡ string_bytes l.fn.line ++ letters (take l.bit-index l.bits)
