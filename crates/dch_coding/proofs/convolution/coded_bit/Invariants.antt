use Rattle.std.proofs.Common.{◌≡◌, ◌≤◌, List, take, sum_by}
use Rattle.dch_bits.specs.declared.bit.Bit.{Bit}
use Rattle.dch_coding.specs.Conv.{input}
use Rattle.dch_coding.specs.Inputs.{Feeds}
use Rattle.dch_coding.proofs.convolution.coded_bit.Given as goal

abbrev pub invariant-loop-d : goal.invariant-loop-d
invariant-loop-d l = record {
  summed : (block : List Bit) → Feeds l.inputs block → l.sum ≡ sum_by (input block l.k) (take l.d-index l.taps);
  small : l.sum ≤ l.d-index;
}
