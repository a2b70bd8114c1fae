use Rattle.std.proofs.Common.{◌≡◌, ◌<◌, ℕ, length}
use Rattle.dch_accept.specs.HeldSets.{AreCleared, held_at}
use Rattle.dch_accept.proofs.set_blocks.clear_all.Given as goal

abbrev pub invariant-loop-i : goal.invariant-loop-i
invariant-loop-i l = record {
  cleared : AreCleared l.idle l.i l.blocks;
  rooms : (j : ℕ) → j < length l.idle → (held_at l.blocks j).room ≡ (held_at l.fn.blocks j).room;
}
