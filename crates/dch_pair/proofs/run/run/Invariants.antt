use Rattle.std.proofs.Common.{◌≤◌, take}
use Rattle.dch_pair.specs.Running.{history, pair_after, rules_in}
use Rattle.dch_pair.specs.Standing.{AreRunning}
use Rattle.dch_pair.proofs.run.run.Given as goal

abbrev pub invariant-loop-event : goal.invariant-loop-event
invariant-loop-event l = record {
  running : AreRunning (rules_in l.fn.setup) l.pair.first l.pair.second (pair_after l.fn.setup (history l.fn.octets (take l.event-index l.fn.events)));
  first : l.pair.first.accepted ≤ l.event-index;
  second : l.pair.second.accepted ≤ l.event-index;
}
