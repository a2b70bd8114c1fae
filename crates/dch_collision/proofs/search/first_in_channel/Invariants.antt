use Rattle.std.proofs.Common.{◌≡◌, ◌<◌, ℕ}
use Rattle.dch_collision.specs.Directions.{copies_in, side_in}
use Rattle.dch_collision.specs.Clear.{IsClearFormat}
use Rattle.dch_collision.proofs.search.first_in_channel.Given as goal

abbrev pub invariant-loop-f : goal.invariant-loop-f
invariant-loop-f l = record {
  none : (f : ℕ) → f < l.f → IsClearFormat (side_in l.direction) (copies_in l.direction) l.i f;
  kept : l.room ≡ l.fn.room;
}
