use Rattle.std.proofs.Common.{◌≡◌, ◌<◌, ◌*◌, ℕ, get_or}
use Rattle.dch_trellis.specs.Steps.{lesser}
use Rattle.dch_trellis.proofs.wide.least_metrics.Given as goal

abbrev pub invariant-loop-i : goal.invariant-loop-i
invariant-loop-i l = (s : ℕ) → s < 2 * l.i → get_or l.path_metrics s 0 ≡ lesser l.later l.table l.step s
