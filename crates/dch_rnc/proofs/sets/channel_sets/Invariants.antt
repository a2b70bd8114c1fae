use Rattle.std.proofs.Common.{◌≡◌, ◌<◌, ℕ, length}
use Rattle.std.specs.Prelude.{slice_index}
use Rattle.dch_types.specs.Parts.{channel_at}
use Rattle.dch_rnc.proofs.sets.channel_sets.Given as goal

abbrev pub invariant-loop-i : goal.invariant-loop-i
invariant-loop-i l = record {
  all : length l.sets.items ≡ l.i;
  each : (k : ℕ) → k < l.i → slice_index l.sets.items k ≡ (channel_at l.side k).set;
}
