use Rattle.std.proofs.Common.{◌≡◌, ◌<◌, ℕ, length}
use Rattle.dch_mac.specs.Table.{IsRow, row_at}
use Rattle.dch_mac.proofs.moment.Moment.fill_channel.Given as goal

abbrev pub invariant-loop-f : goal.invariant-loop-f
invariant-loop-f l = record {
  size : length l.rows ≡ 256;
  written : (f : ℕ) → f < l.f → IsRow l.self l.i f (row_at l.rows l.i f);
  earlier : (j f : ℕ) → j < l.i → f < 32 → row_at l.rows j f ≡ row_at l.initial.rows j f;
}
