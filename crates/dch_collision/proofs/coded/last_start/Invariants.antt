use Rattle.std.proofs.Common.{◌≡◌, ◌-◌, ◌<◌, ◌≤◌, ℕ, List, length}
use Rattle.dch_bits.specs.declared.bit.Bit.{Bit}
use Rattle.dch_collision.specs.Hidden.{IsHidden}
use Rattle.dch_collision.proofs.coded.last_start.Given as goal

abbrev pub invariant-loop-done : goal.invariant-loop-done
invariant-loop-done l = record {
  none : (k : ℕ) (other : List Bit) → length l.fn.out - l.done ≤ k → k < length l.fn.out → IsHidden l.rate l.sent_flags (length l.fn.out) k other → ⊥;
  same : l.trellis ≡ l.fn.trellis;
}
