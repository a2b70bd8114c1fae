use Rattle.std.proofs.Common.{◌≡◌, map, take}
use Rattle.dch_bits.specs.Text.{bit_of_letter}
use Rattle.dch_top.proofs.encode_handler.read_letters.Given as goal

abbrev pub invariant-loop-i : goal.invariant-loop-i
invariant-loop-i l = take l.i l.bits ≡ map bit_of_letter (take l.i l.letters)
