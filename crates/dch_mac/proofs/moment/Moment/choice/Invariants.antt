use Rattle.std.proofs.Common.{◌≡◌, ◌<◌, ◌≤◌, ◌*◌, ◌+◌, ℕ, get_or, length}
use Rattle.dch_types.specs.Sums.{total}
use Rattle.dch_mac.specs.Best.{bits_in, carried_below}
use Rattle.dch_mac.proofs.moment.Moment.choice.Given as goal

abbrev pub invariant-loop-i : goal.invariant-loop-i
invariant-loop-i l = record {
  eight : length l.carried ≡ 8;
  sums : (q : ℕ) → q < 8 → get_or l.carried q 0 ≡ carried_below l.self l.c (q + 1) l.i;
  few : (q : ℕ) → q < 8 → get_or l.carried q 0 ≤ l.i * 320000;
  sum : l.bits ≡ total (bits_in l.self l.c) l.i;
  small : l.bits ≤ l.i * 320000;
}
