use Rattle.std.proofs.Common.{◌≡◌, ◌<◌, ℕ, get_or, length}
use Rattle.dch_trellis.specs.Undamaged.{outputs_at}
use Rattle.dch_trellis.proofs.table.outputs_of.Given as goal

abbrev pub invariant-loop-s : goal.invariant-loop-s
invariant-loop-s l = record {
  long : length l.outputs ≡ 256;
  read : (s : ℕ) → s < l.s → get_or l.outputs s 0 ≡ outputs_at l.table s;
}
