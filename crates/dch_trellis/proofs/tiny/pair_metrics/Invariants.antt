use Rattle.std.proofs.Common.{◌≡◌, ◌<◌, ◌*◌, ℕ, get_or}
use Rattle.dch_trellis.specs.Classes.{class_metric}
use Rattle.dch_trellis.proofs.tiny.pair_metrics.Given as goal

abbrev pub invariant-loop-block : goal.invariant-loop-block
invariant-loop-block l = (i : ℕ) → i < 16 * l.block → get_or l.near i 0 ≡ class_metric l.step (get_or l.classes i 0)
