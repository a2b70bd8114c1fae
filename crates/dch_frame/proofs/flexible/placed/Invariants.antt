use Rattle.std.proofs.Common.{◌≡◌, ◌≤◌, ◌*◌}
use Rattle.dch_types.specs.Parts.{format_number}
use Rattle.dch_types.specs.Sums.{total}
use Rattle.dch_frame.specs.Places.{place_at}
use Rattle.dch_frame.proofs.flexible.placed.Given as goal

abbrev pub invariant-loop-i : goal.invariant-loop-i
invariant-loop-i l = (l.places ≡ total (λ i. place_at l.table i (format_number l.side l.c i)) l.i) × (l.places ≤ 4294967296 * l.i)
