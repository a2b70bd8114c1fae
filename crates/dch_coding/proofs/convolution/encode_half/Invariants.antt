use Rattle.std.proofs.Common.{◌*◌, List}
use Rattle.dch_bits.specs.declared.bit.Bit.{Bit}
use Rattle.dch_coding.specs.declared.rate.Rate.TheVariants.{Half}
use Rattle.dch_coding.specs.Inputs.{Feeds, IsCodedTo}
use Rattle.dch_coding.proofs.convolution.encode_half.Given as goal

abbrev pub invariant-loop-c : goal.invariant-loop-c
invariant-loop-c l = (block : List Bit) → Feeds l.inputs block → IsCodedTo Half block (32 * l.c) l.out

abbrev pub invariant-loop-k : goal.invariant-loop-k
invariant-loop-k l = (block : List Bit) → Feeds l.inputs block → IsCodedTo Half block (2 * l.k) l.out
