use Rattle.std.proofs.Common.{◌-◌}
use Rattle.dch_io.specs.Ends.{end_of}
use Rattle.dch_io.specs.Pieces.{LIMIT}
use Rattle.dch_top.proofs.Judging.{Passing}
use Rattle.dch_top.proofs.check.pass_over.Given as goal

abbrev pub invariant-pieces : goal.invariant-pieces
invariant-pieces g l = Passing (end_of g.S.Source.left g.S.Source.faults l.fn.source l.source) l.fn.count l.count

abbrev pub decreases-pieces : goal.decreases-pieces
decreases-pieces g l = LIMIT - l.count
