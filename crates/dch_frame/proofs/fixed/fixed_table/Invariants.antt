use Rattle.std.proofs.Common.{◌≡◌, ◌<◌, ℕ, length}
use Rattle.dch_types.specs.Parts.{channel_at}
use Rattle.dch_types.specs.Sums.{total}
use Rattle.dch_frame.specs.Downlinks.{fixed_weight, fixed_places}
use Rattle.dch_frame.specs.Places.{place_at}
use Rattle.dch_frame.proofs.fixed.fixed_table.Given as goal

abbrev pub invariant-loop-i : goal.invariant-loop-i
invariant-loop-i l = record {
  held : l.held ≡ total (fixed_weight l.side) l.i;
  places : (j f : ℕ) → j < l.i → f < length (channel_at l.side j).formats → place_at l.table j f ≡ fixed_places l.side l.ndata j;
}
