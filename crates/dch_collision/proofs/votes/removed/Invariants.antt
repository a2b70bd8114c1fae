use Rattle.std.proofs.Common.{◌≡◌, ◌≤◌, take}
use Rattle.dch_collision.specs.Hidden.{removed}
use Rattle.dch_collision.proofs.votes.removed.Given as goal

abbrev pub invariant-loop-sent : goal.invariant-loop-sent
invariant-loop-sent l = record {
  counted : l.count ≡ removed (take l.sent-index l.sent_flags);
  few : l.count ≤ l.sent-index;
}
