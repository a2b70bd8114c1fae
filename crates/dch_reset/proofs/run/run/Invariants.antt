use Rattle.std.proofs.Common.{◌≤◌, take}
use Rattle.dch_pair.specs.Running.{rules_in}
use Rattle.dch_reset.specs.Running.{history, pair_after}
use Rattle.dch_reset.specs.RunStanding.{AreRunning}
use Rattle.dch_reset.proofs.run.run.Given as goal

abbrev pub invariant-loop-event : goal.invariant-loop-event
invariant-loop-event l = record {
  running : AreRunning (rules_in l.fn.setup) l.pair.first l.pair.second l.pair.to_second l.pair.to_first (pair_after l.fn.setup (history l.fn.octets (take l.event-index l.fn.events)));
  first : l.pair.first.accepted ≤ l.event-index;
  second : l.pair.second.accepted ≤ l.event-index;
}
