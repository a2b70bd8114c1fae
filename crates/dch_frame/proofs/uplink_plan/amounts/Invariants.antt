use Rattle.std.proofs.Common.{◌≡◌, ◌<◌, ◌≤◌, ℕ, slice_index, length}
use Rattle.dch_types.specs.Sums.{total}
use Rattle.dch_frame.specs.Uplinks.{before_of, weight_of, sent_of}
use Rattle.dch_frame.proofs.uplink_plan.amounts.Given as goal

abbrev pub invariant-loop-i : goal.invariant-loop-i
invariant-loop-i l = record {
  held : l.held ≡ total (weight_of l.side l.c) l.i;
  before : (k : ℕ) → k < l.i → slice_index l.before k ≡ before_of l.side l.c k;
  sent : (k : ℕ) → k < l.i → slice_index l.sent k ≡ sent_of l.side l.c l.ndata k;
  no_more : (k : ℕ) → l.i ≤ k → (slice_index l.before k ≡ 0) × (slice_index l.sent k ≡ 0);
  sizes : (length l.before ≡ 8) × (length l.sent ≡ 8);
}
