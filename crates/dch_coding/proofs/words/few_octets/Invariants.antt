use Rattle.std.proofs.Common.{◌≡◌, ◌+◌, ◌*◌, ◌^◌, ◌<◌, ◌++◌, map}
use Rattle.std.specs.List.{range_with_len}
use Rattle.dch_bits.specs.Octets.{bit_of_octets}
use Rattle.dch_coding.specs.Register.{lowest_bits}
use Rattle.dch_coding.proofs.words.few_octets.Given as goal

abbrev pub invariant-loop-octet : goal.invariant-loop-octet
invariant-loop-octet l = record {
  small : l.number < 2 ^ (8 + 8 * l.octet-index);
  bits : lowest_bits (8 + 8 * l.octet-index) l.number ≡ lowest_bits 8 l.first ++ map (bit_of_octets l.octets) (range_with_len 0 (8 * l.octet-index));
}
