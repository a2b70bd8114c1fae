use Rattle.std.proofs.Common.{◌*◌}
use Rattle.dch_frame.specs.Stages.{code_place}
use Rattle.dch_frame.proofs.Codes.{ShowBelow}
use Rattle.dch_frame.proofs.interleaver.gather_codes.Given as goal

abbrev pub invariant-loop-code : goal.invariant-loop-code
invariant-loop-code g l = ShowBelow (code_place l.len) l.from l.out (l.code * l.len)
