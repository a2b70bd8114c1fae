use Rattle.std.proofs.Common.{◌≡◌, ◌<◌, ◌≤◌, ◌-◌, ℕ, length, get_or}
use Rattle.dch_types.specs.Parts.{format_number}
use Rattle.dch_collision.specs.Steps.{IsLeastFit, previous_of}
use Rattle.dch_collision.proofs.legal_sequences.fill.Given as goal

abbrev pub invariant-loop-frame : goal.invariant-loop-frame
invariant-loop-frame l = record {
  there : get_or l.sequence (l.frame - 1) 0 < length l.side.combinations;
  format : format_number l.side (get_or l.sequence (l.frame - 1) 0) l.channel ≡ l.format;
  same : (n : ℕ) → n < l.from → get_or l.sequence n 0 ≡ get_or l.initial.sequence n 0;
  least : (n : ℕ) → l.from ≤ n → n < l.frame → IsLeastFit l.side l.channel l.format n (previous_of l.sequence n) 0 (get_or l.sequence n 0);
}
