use Rattle.std.proofs.Common.{◌≡◌, ◌≤◌}
use Rattle.std.specs.Prelude.{vec_capacity, vec_len}
use Rattle.dch_trellis.proofs.trellis.lengthen.Given as goal

abbrev pub invariant-loop-made : goal.invariant-loop-made
invariant-loop-made g l = record {
  long : vec_len l.rows ≡ l.made;
  capacity : vec_capacity l.fn.rows ≤ vec_capacity l.rows;
}
