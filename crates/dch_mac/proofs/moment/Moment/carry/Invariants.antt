use Rattle.std.proofs.Common.{◌≡◌, ◌<◌, ◌≤◌, ◌*◌, ◌+◌, ◌-◌, ℕ, get_or}
use Rattle.dch_mac.specs.Offered.{given_by, waiting_above}
use Rattle.dch_mac.proofs.moment.Moment.carry.Given as goal

abbrev pub invariant-loop-q : goal.invariant-loop-q
invariant-loop-q l = record {
  left : l.left ≡ l.format.number - waiting_above l.self l.i l.format.size l.q;
  sums : (q : ℕ) → q < l.q → get_or l.carried q 0 ≡ given_by l.self l.i l.format (q + 1) * l.format.size;
  small : (q : ℕ) → q < l.q → get_or l.carried q 0 ≤ 320000;
}
