use Rattle.std.proofs.Common.{◌≡◌, ◌+◌, ◌*◌, ◌≤◌}
use Rattle.dch_iub.specs.Shape.{number_place, octets_before, marks_before}
use Rattle.dch_iub.proofs.shape.shape_of.Given as goal

abbrev pub invariant-loop-i : goal.invariant-loop-i
invariant-loop-i l = record {
  header : l.header ≡ number_place l.side l.set l.i;
  octets : l.octets ≡ octets_before l.side l.set l.numbers l.i;
  marks : l.marks ≡ marks_before l.side l.set l.numbers l.i;
  short : l.header ≤ 2 + l.i;
  small : l.octets ≤ 40000 * l.i;
  few : l.marks ≤ 64 * l.i;
}
