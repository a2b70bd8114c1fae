use Rattle.std.proofs.Common.{◌≡◌, ◌<◌, ℕ, length}
use Rattle.dch_types.specs.Parts.{channel_at}
use Rattle.dch_mac.specs.Table.{IsRow, row_at}
use Rattle.dch_mac.proofs.moment.Moment.fill.Given as goal

abbrev pub invariant-loop-i : goal.invariant-loop-i
invariant-loop-i l = record {
  size : length l.rows ≡ 256;
  written : (i : ℕ) → i < l.i → (f : ℕ) → f < length (channel_at l.self.side i).formats → IsRow l.self i f (row_at l.rows i f);
}
