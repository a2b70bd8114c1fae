use Rattle.std.proofs.Common.{◌≡◌, ◌<◌, ◌*◌, ◌+◌, List, ℕ, length, get_or}
use Rattle.dch_bits.specs.declared.bit.Bit.{Bit}
use Rattle.dch_bits.specs.declared.bit.Bit.TheVariants.{Zero}
use Rattle.dch_coding.specs.declared.rate.Rate.TheVariants.{Half}
use Rattle.dch_coding.specs.Conv.{coded_bit}
use Rattle.dch_coding.specs.Inputs.{Feeds, IsCodedTo}
use Rattle.dch_coding.proofs.convolution.half_steps.Given as goal

abbrev pub invariant-loop-j : goal.invariant-loop-j
invariant-loop-j l = record {
  first_long : length l.first ≡ 16;
  second_long : length l.second ≡ 16;
  first : (block : List Bit) → Feeds l.inputs block → (i : ℕ) → i < l.j → get_or l.first i Zero ≡ coded_bit Half block (2 * (l.from + i));
  second : (block : List Bit) → Feeds l.inputs block → (i : ℕ) → i < l.j → get_or l.second i Zero ≡ coded_bit Half block (2 * (l.from + i) + 1);
}

abbrev pub invariant-loop-j-2 : goal.invariant-loop-j-2
invariant-loop-j-2 l = (block : List Bit) → Feeds l.inputs block → IsCodedTo Half block (2 * l.from) l.fn.out → IsCodedTo Half block (2 * (l.from + l.j)) l.out
