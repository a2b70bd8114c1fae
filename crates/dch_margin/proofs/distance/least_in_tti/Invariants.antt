use Rattle.std.proofs.Common.{◌≡◌}
use Rattle.dch_trellis.specs.Distance.{copies_at}
use Rattle.dch_margin.specs.Differ.{IsLeastBelow}
use Rattle.dch_margin.proofs.distance.least_in_tti.Given as goal

abbrev pub invariant-loop-r : goal.invariant-loop-r
invariant-loop-r l = record {
  least : IsLeastBelow l.coding l.plan (copies_at l.votes) l.r l.least;
  kept : l.trellis ≡ l.fn.trellis;
}
