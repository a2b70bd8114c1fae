use Rattle.std.proofs.Common.{◌≡◌, ◌++◌, drop, string_bytes}
use Rattle.dch_check.specs.Acceptance.{more_numbers}
use Rattle.dch_check.proofs.acceptance.push_more.Given as goal

abbrev pub invariant-loop-number : goal.invariant-loop-number
invariant-loop-number l = string_bytes l.line ++ more_numbers (drop l.number-index l.numbers) ≡ string_bytes l.fn.line ++ more_numbers l.fn.numbers
