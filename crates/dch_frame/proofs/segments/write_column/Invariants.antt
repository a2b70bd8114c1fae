use Rattle.dch_frame.proofs.Carried.{ArePut}
use Rattle.dch_frame.proofs.segments.write_column.Given as goal

abbrev pub invariant-loop-m : goal.invariant-loop-m
invariant-loop-m g l = ArePut l.frames l.frame l.segment l.fn.tti l.tti l.m
