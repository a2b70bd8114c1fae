use Rattle.std.proofs.Common.{◌≡◌, ◌-◌, ◌<◌, ◌≤◌, ℕ, false}
use Rattle.dch_retx.specs.RequestSet.{is_in}
use Rattle.dch_retx.proofs.request_set.RequestSet.next.Given as goal

abbrev pub invariant-loop-i : goal.invariant-loop-i
invariant-loop-i l = record {
  from : l.from ≤ l.i;
  before : (j : ℕ) → l.from ≤ j → j < l.i → is_in l.self j ≡ false;
}

abbrev pub decreases-loop-i : goal.decreases-loop-i
decreases-loop-i l = l.to - l.i
