use Rattle.std.proofs.Common.{◌≡◌, ◌-◌, ◌+◌}
use Rattle.dch_frame.specs.declared.pattern.Kind.TheVariants.{Repeat}
use Rattle.dch_frame.specs.Patterns.{copies_below}
use Rattle.dch_frame.specs.Stages.{AreKept}
use Rattle.dch_frame.proofs.Counters.{counter_before, IsRepeating}
use Rattle.dch_frame.proofs.matching.repeat_bits.Given as goal

abbrev pub invariant-loop-bit : goal.invariant-loop-bit
invariant-loop-bit g l = record {
  counter : l.counter ≡ counter_before l.steps l.bit-index;
  place : l.at ≡ copies_below (Repeat l.steps) l.bit-index;
  kept : AreKept (Repeat l.steps) l.bits l.out l.at;
}

abbrev pub invariant-loop-counter : goal.invariant-loop-counter
invariant-loop-counter g l = record {
  counter : IsRepeating l.steps l.bit-index l.at l.counter;
  kept : AreKept (Repeat l.steps) l.bits l.out l.at;
}

abbrev pub decreases-loop-counter : goal.decreases-loop-counter
decreases-loop-counter g l = l.steps.e_minus + 1 - l.counter
