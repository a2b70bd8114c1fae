use Rattle.std.proofs.Common.{◌≡◌, ◌≤◌, ◌||◌, length}
use Rattle.std.specs.Prelude.{min, unwrap_or}
use Rattle.dch_retx.specs.StatusItems.{said_by}
use Rattle.dch_retx.specs.StatusItem.{below_said, ending_of, limit_in, or_else, reports_some}
use Rattle.dch_retx.proofs.tell.tell.Given as goal

abbrev pub decreases-loop-cursor : goal.decreases-loop-cursor
decreases-loop-cursor l = length l.cursor

abbrev pub invariant-loop-cursor : goal.invariant-loop-cursor
invariant-loop-cursor l = record {
  below : below_said l.sent.first (said_by l.fn.status) ≡ unwrap_or l.told.below (below_said l.sent.first (said_by l.cursor));
  reports : reports_some (said_by l.fn.status) ≡ (l.told.reports || reports_some (said_by l.cursor));
  ending : ending_of l.sent.first l.sent.count l.running (said_by l.fn.status) ≡ or_else l.told.ending (ending_of l.sent.first l.sent.count l.running (said_by l.cursor));
  limit_is : limit_in l.sent.window l.sent.first l.sent.count (said_by l.fn.status) ≡ min l.told.limit (limit_in l.sent.window l.sent.first l.sent.count (said_by l.cursor));
  small : l.told.limit ≤ 4097;
}
