use Rattle.std.proofs.Common.{◌≡◌, ◌<◌, ℕ, length}
use Rattle.dch_types.specs.Parts.{channel_at}
use Rattle.dch_frame.specs.Downlinks.{IsRow, row_at}
use Rattle.dch_frame.proofs.downlink_plan.downlink.Given as goal

abbrev pub invariant-loop-i : goal.invariant-loop-i
invariant-loop-i l = record {
  width : length l.rows ≡ l.i;
  rows : (k : ℕ) → k < l.i → IsRow l.config k (length (channel_at l.config.side k).formats) (row_at l.rows k);
}
