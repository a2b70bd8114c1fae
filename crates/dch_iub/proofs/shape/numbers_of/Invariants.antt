use Rattle.std.proofs.Common.{◌≡◌, ◌<◌, ℕ, length}
use Rattle.std.specs.Prelude.{slice_index}
use Rattle.dch_accept.specs.HeldSets.{held_at}
use Rattle.dch_iub.proofs.shape.numbers_of.Given as goal

abbrev pub invariant-loop-i : goal.invariant-loop-i
invariant-loop-i l = record {
  long : length l.numbers ≡ 8;
  known : (j : ℕ) → j < l.i → slice_index l.numbers j ≡ (held_at l.blocks.blocks j).format;
}
