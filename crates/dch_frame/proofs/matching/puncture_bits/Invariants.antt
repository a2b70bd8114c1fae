use Rattle.std.proofs.Common.{◌≡◌}
use Rattle.dch_frame.specs.declared.pattern.Kind.TheVariants.{Puncture}
use Rattle.dch_frame.specs.Patterns.{copies_below}
use Rattle.dch_frame.specs.Stages.{AreKept}
use Rattle.dch_frame.proofs.Counters.{counter_before}
use Rattle.dch_frame.proofs.matching.puncture_bits.Given as goal

abbrev pub invariant-loop-bit : goal.invariant-loop-bit
invariant-loop-bit g l = record {
  counter : l.counter ≡ counter_before l.steps l.bit-index;
  place : l.at ≡ copies_below (Puncture l.steps) l.bit-index;
  kept : AreKept (Puncture l.steps) l.bits l.out l.at;
}
