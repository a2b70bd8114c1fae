use Rattle.std.proofs.Common.{◌+◌, ◌*◌}
use Rattle.dch_frame.proofs.Codes.{ShowBelow}
use Rattle.dch_frame.proofs.segments.read_column.Given as goal

abbrev pub invariant-loop-m : goal.invariant-loop-m
invariant-loop-m g l = ShowBelow (λ m. m * l.frames + l.column) l.tti l.out l.m
