use Rattle.std.proofs.Common.{◌≡◌, string_bytes}
use Rattle.dch_collision.specs.Directions.{copies_in, side_in}
use Rattle.dch_margin.specs.Worst.{carriers_in}
use Rattle.dch_margin.specs.Reports.{AreChannelLines, AreParts}
use Rattle.dch_margin.proofs.lines.direction_lines.Given as goal

abbrev pub invariant-loop-i : goal.invariant-loop-i
invariant-loop-i l = record {
  parts : AreParts (AreChannelLines l.telling (side_in l.direction) (copies_in l.direction) (carriers_in l.direction) l.dir) l.i (string_bytes l.lines);
  kept : l.trellis ≡ l.fn.trellis;
}
