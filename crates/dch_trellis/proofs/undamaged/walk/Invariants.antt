use Rattle.std.proofs.Common.{◌≡◌, ◌≤◌, ℕ, get_or, length}
use Rattle.dch_trellis.specs.Undamaged.{LeadTo}
use Rattle.dch_trellis.proofs.undamaged.walk.Given as goal

abbrev pub invariant-loop-k : goal.invariant-loop-k
invariant-loop-k l = record {
  here : get_or l.states l.k 0 ≡ l.state;
  leads : (k : ℕ) → k ≤ l.k → LeadTo l.rate l.votes (length l.fn.out) l.filler k l.out (get_or l.states k 0);
}
