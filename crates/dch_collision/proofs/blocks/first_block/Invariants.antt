use Rattle.std.proofs.Common.{◌≡◌, ◌<◌, ℕ}
use Rattle.dch_collision.specs.Collisions.{copies_kept}
use Rattle.dch_collision.specs.Clear.{IsClearBlock}
use Rattle.dch_collision.proofs.blocks.first_block.Given as goal

abbrev pub invariant-loop-r : goal.invariant-loop-r
invariant-loop-r l = record {
  none : (r : ℕ) → r < l.r → IsClearBlock l.coding l.plan (copies_kept l.sent_flags) r;
  kept : l.collider ≡ l.fn.collider;
}
