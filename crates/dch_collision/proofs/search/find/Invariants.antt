use Rattle.std.proofs.Common.{◌≡◌, ◌<◌, ℕ}
use Rattle.dch_collision.specs.Directions.{copies_in, side_in}
use Rattle.dch_collision.specs.Clear.{IsClearChannel}
use Rattle.dch_collision.proofs.search.find.Given as goal

abbrev pub invariant-loop-i : goal.invariant-loop-i
invariant-loop-i l = record {
  none : (i : ℕ) → i < l.i → IsClearChannel (side_in l.direction) (copies_in l.direction) i;
  kept : l.room ≡ l.fn.room;
}
