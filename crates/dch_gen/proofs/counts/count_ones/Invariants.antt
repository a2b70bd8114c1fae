use Rattle.std.proofs.Common.{◌≡◌, ◌*◌, take}
use Rattle.std.specs.Prelude.{count_by}
use Rattle.dch_gen.specs.Counts.{is_one}
use Rattle.dch_gen.proofs.counts.count_ones.Given as goal

abbrev pub invariant-loop-c : goal.invariant-loop-c
invariant-loop-c l = l.ones ≡ count_by is_one (take (128 * l.c) l.cells)
