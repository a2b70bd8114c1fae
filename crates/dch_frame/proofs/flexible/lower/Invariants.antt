use Rattle.std.proofs.Common.{◌≡◌, ◌<◌, ◌≤◌, ◌+◌, ℕ, length}
use Rattle.dch_types.specs.Parts.{channel_at}
use Rattle.dch_types.specs.Sums.{total}
use Rattle.dch_frame.specs.Downlinks.{combined, places_after}
use Rattle.dch_frame.specs.Places.{place_at}
use Rattle.dch_frame.proofs.flexible.lower.Given as goal

abbrev pub invariant-loop-i : goal.invariant-loop-i
invariant-loop-i l = record {
  held : l.held ≡ total (combined l.side l.c) l.i;
  lowered : (j f : ℕ) → j < l.i → f < length (channel_at l.side j).formats → place_at l.table j f ≡ places_after l.side l.ndata (l.c + 1) j f;
  waiting : (j f : ℕ) → l.i ≤ j → j < length l.side.channels → f < length (channel_at l.side j).formats → place_at l.table j f ≡ places_after l.side l.ndata l.c j f;
}
