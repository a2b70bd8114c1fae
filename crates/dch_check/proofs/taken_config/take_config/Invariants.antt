use Rattle.std.proofs.Common.{◌-◌}
use Rattle.dch_io.specs.Ends.{end_of}
use Rattle.dch_io.specs.Pieces.{LIMIT}
use Rattle.dch_check.proofs.Taking.{Gathering}
use Rattle.dch_check.proofs.taken_config.take_config.Given as goal

abbrev pub invariant-pieces : goal.invariant-pieces
invariant-pieces g l = Gathering (end_of g.S.Source.left g.S.Source.faults l.fn.source l.source) l.section l.count

abbrev pub decreases-pieces : goal.decreases-pieces
decreases-pieces g l = LIMIT - l.count
