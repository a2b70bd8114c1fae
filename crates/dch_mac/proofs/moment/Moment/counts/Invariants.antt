use Rattle.std.proofs.Common.{◌≡◌, ◌<◌, ◌≤◌, ◌*◌, ◌+◌, ℕ, get_or, length}
use Rattle.dch_mac.specs.Offered.{waiting_below}
use Rattle.dch_mac.proofs.moment.Moment.counts.Given as goal

abbrev pub invariant-loop-bearer : goal.invariant-loop-bearer
invariant-loop-bearer l = record {
  eight : length l.counts ≡ 8;
  sums : (q : ℕ) → q < 8 → get_or l.counts q 0 ≡ waiting_below l.self l.i l.size (q + 1) l.bearer;
  small : (q : ℕ) → q < 8 → get_or l.counts q 0 ≤ l.bearer * 65535;
}
