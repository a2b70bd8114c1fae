use Rattle.std.proofs.Common.{◌≡◌, ◌+◌, ◌<◌, ◌*◌, ℕ, get_or}
use Rattle.dch_trellis.specs.Classes.{lesser_near}
use Rattle.dch_trellis.proofs.narrow.least_metrics.Given as goal

abbrev pub invariant-loop-block : goal.invariant-loop-block
invariant-loop-block l = record {
  even : (i : ℕ) → i < 8 * l.block → get_or l.path_metrics (2 * i) 0 ≡ lesser_near l.later l.near l.total (2 * i);
  odd : (i : ℕ) → i < 8 * l.block → get_or l.path_metrics (2 * i + 1) 0 ≡ lesser_near l.later l.near l.total (2 * i + 1);
}
