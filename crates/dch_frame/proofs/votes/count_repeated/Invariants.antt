use Rattle.std.proofs.Common.{◌≡◌, ◌-◌, ◌+◌}
use Rattle.dch_frame.specs.declared.pattern.Kind.TheVariants.{Repeat}
use Rattle.dch_frame.specs.Patterns.{copies_below}
use Rattle.dch_frame.specs.Votes.{AreCounted}
use Rattle.dch_frame.proofs.Counters.{counter_before, IsRepeating}
use Rattle.dch_frame.proofs.Counts.{AreAmong}
use Rattle.dch_frame.proofs.votes.count_repeated.Given as goal

abbrev pub invariant-loop-m : goal.invariant-loop-m
invariant-loop-m l = record {
  counter : l.counter ≡ counter_before l.steps l.m;
  place : l.at ≡ copies_below (Repeat l.steps) l.m;
  counted : AreCounted (Repeat l.steps) l.cells l.out l.m;
}

abbrev pub invariant-loop-counter : goal.invariant-loop-counter
invariant-loop-counter l = record {
  counter : IsRepeating l.steps l.m l.at l.counter;
  votes : AreAmong l.cells (copies_below (Repeat l.steps) l.m) (l.at - copies_below (Repeat l.steps) l.m) l.vote;
}

abbrev pub decreases-loop-counter : goal.decreases-loop-counter
decreases-loop-counter l = l.steps.e_minus + 1 - l.counter
