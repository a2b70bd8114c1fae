use Rattle.std.proofs.Common.{◌≡◌, ◌<◌, ◌*◌, ℕ, get_or}
use Rattle.dch_trellis.specs.Classes.{by_zero_near}
use Rattle.dch_trellis.proofs.narrow.zero_metrics.Given as goal

abbrev pub invariant-loop-i : goal.invariant-loop-i
invariant-loop-i l = (s : ℕ) → s < 2 * l.i → get_or l.path_metrics s 0 ≡ by_zero_near l.later l.near l.total s
