use Rattle.std.proofs.Common.{◌≡◌, ◌-◌, ◌<◌, ◌≤◌, ℕ, length, get_or}
use Rattle.std.specs.Prelude.{true, false, replicate}
use Rattle.dch_bits.specs.declared.bit.Bit.TheVariants.{Zero}
use Rattle.dch_collision.proofs.uncoded.find_uncoded.Given as goal

abbrev pub invariant-loop-done : goal.invariant-loop-done
invariant-loop-done l = record {
  sent : (k : ℕ) → length l.fn.out - l.done ≤ k → k < length l.fn.out → get_or l.sent_flags k false ≡ true;
  zeros : l.out ≡ replicate (length l.fn.out) Zero;
}
