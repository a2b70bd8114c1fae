use Rattle.std.proofs.Common.{length, arith}
use Rattle.dch_trellis.proofs.Inverted.{first_inputs}
use Rattle.dch_trellis.proofs.inverse.read.Goals as goal

pub returns-clause-inverse : goal.returns-clause-inverse
returns-clause-inverse c = λ source within decided.
    first_inputs c.args.rate c.args.votes.now c.majorities.new.bits c.invert.new.block source (length c.args.block.now) c.coded_len-coded.result (omega arith) within c.coded_len-coded.ensures (omega arith) c.majorities.ensures c.invert.ensures decided
