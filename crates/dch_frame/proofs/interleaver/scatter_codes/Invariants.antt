use Rattle.std.proofs.Common.{◌*◌}
use Rattle.dch_frame.specs.Stages.{code_back}
use Rattle.dch_frame.proofs.Codes.{ShowBelow}
use Rattle.dch_frame.proofs.interleaver.scatter_codes.Given as goal

abbrev pub invariant-loop-code : goal.invariant-loop-code
invariant-loop-code g l = ShowBelow (code_back l.len) l.cells l.out (l.code * l.len)
