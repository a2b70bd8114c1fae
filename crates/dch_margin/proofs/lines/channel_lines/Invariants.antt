use Rattle.std.proofs.Common.{◌≡◌, string_bytes}
use Rattle.dch_collision.specs.Directions.{copies_in, side_in}
use Rattle.dch_margin.specs.Worst.{carriers_in}
use Rattle.dch_margin.specs.Reports.{IsFormatLine, AreParts}
use Rattle.dch_margin.proofs.lines.channel_lines.Given as goal

abbrev pub invariant-loop-f : goal.invariant-loop-f
invariant-loop-f l = record {
  parts : AreParts (IsFormatLine l.telling (side_in l.direction) (copies_in l.direction) (carriers_in l.direction) l.dir l.i) l.f (string_bytes l.lines);
  kept : l.trellis ≡ l.fn.trellis;
}
