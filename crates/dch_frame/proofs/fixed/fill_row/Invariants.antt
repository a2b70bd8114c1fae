use Rattle.std.proofs.Common.{◌≡◌, ◌≢◌, ◌<◌, ℕ}
use Rattle.dch_frame.specs.Places.{place_at}
use Rattle.dch_frame.proofs.fixed.fill_row.Given as goal

abbrev pub invariant-loop-f : goal.invariant-loop-f
invariant-loop-f l = record {
  here : (g : ℕ) → g < l.f → place_at l.table l.i g ≡ l.places;
  same : (j g : ℕ) → j ≢ l.i → place_at l.table j g ≡ place_at l.fn.table j g;
}
