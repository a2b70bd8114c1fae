use Rattle.std.proofs.Common.{◌≡◌, ◌<◌, ℕ, length}
use Rattle.std.specs.Prelude.{slice_index}
use Rattle.dch_types.specs.Parts.{channel_at}
use Rattle.dch_iub.specs.Longest.{IsGreatest}
use Rattle.dch_iub.proofs.greatest.longest_formats.Given as goal

abbrev pub invariant-loop-i : goal.invariant-loop-i
invariant-loop-i l = record {
  long : length l.numbers ≡ 8;
  each : (j : ℕ) → j < l.i → IsGreatest l.dir (channel_at l.side j) (length (channel_at l.side j).formats) (slice_index l.numbers j);
}
