use Rattle.std.proofs.Common.{◌≡◌}
use Rattle.dch_frame.specs.declared.pattern.Kind.TheVariants.{Puncture}
use Rattle.dch_frame.specs.Patterns.{copies_below}
use Rattle.dch_frame.specs.Votes.{AreCounted}
use Rattle.dch_frame.proofs.Counters.{counter_before}
use Rattle.dch_frame.proofs.votes.count_punctured.Given as goal

abbrev pub invariant-loop-m : goal.invariant-loop-m
invariant-loop-m l = record {
  counter : l.counter ≡ counter_before l.steps l.m;
  place : l.at ≡ copies_below (Puncture l.steps) l.m;
  counted : AreCounted (Puncture l.steps) l.cells l.out l.m;
}
