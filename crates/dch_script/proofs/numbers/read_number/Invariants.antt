use Rattle.std.proofs.Common.{◌≡◌, ◌≤◌, drop}
use Rattle.dch_script.specs.Numbers.{value_after}
use Rattle.dch_script.proofs.numbers.read_number.Given as goal

abbrev pub invariant-loop-c : goal.invariant-loop-c
invariant-loop-c l = (l.number ≤ l.most) × (value_after l.number (drop l.c-index l.word) ≡ value_after 0 l.word)
