use Rattle.std.proofs.Common.{◌<◌, ◌≤◌, ℕ}
use Rattle.dch_accept.specs.Cells.{frame_cells}
use Rattle.dch_accept.specs.Frames.{most_cells}
use Rattle.dch_damage.proofs.radio.longest_frame.Given as goal

abbrev pub invariant-loop-c : goal.invariant-loop-c
invariant-loop-c l = ((c : ℕ) → c < l.c → frame_cells l.accepted l.dir c ≤ l.longest) × (l.longest ≤ most_cells l.accepted.config l.dir)
