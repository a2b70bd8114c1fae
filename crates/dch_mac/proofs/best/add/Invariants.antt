use Rattle.std.proofs.Common.{◌≡◌, ◌<◌, ◌≤◌, ◌+◌, ℕ, get_or}
use Rattle.dch_mac.proofs.best.add.Given as goal

abbrev pub invariant-loop-q : goal.invariant-loop-q
invariant-loop-q l = record {
  sums : (q : ℕ) → q < l.q → get_or l.carried q 0 ≡ get_or l.initial.carried q 0 + get_or l.more q 0;
  rest : (q : ℕ) → l.q ≤ q → get_or l.carried q 0 ≡ get_or l.initial.carried q 0;
}
