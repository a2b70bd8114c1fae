use Rattle.std.proofs.Common.{◌≡◌, ◌<◌, ◌+◌, ◌*◌, ℕ, length, get_or}
use Rattle.dch_bits.specs.declared.bit.Bit.TheVariants.{Zero}
use Rattle.dch_coding.specs.declared.rate.Rate.TheVariants.{Half}
use Rattle.dch_trellis.specs.Inverse.{AreInverse, places, sum_from}
use Rattle.dch_trellis.proofs.inverse.half_inputs.Given as goal

abbrev pub invariant-loop-j : goal.invariant-loop-j
invariant-loop-j l = record {
  long : length l.sums ≡ 32;
  summed : (i : ℕ) → i < l.j → get_or l.sums i Zero ≡ sum_from l.coded (2 * l.from + i) (places Half);
}

abbrev pub invariant-loop-j-2 : goal.invariant-loop-j-2
invariant-loop-j-2 l = AreInverse Half l.from l.coded l.fn.block → AreInverse Half (l.from + l.j) l.coded l.block
