use Rattle.std.proofs.Common.{arith}
use Rattle.dch_amsend.proofs.pass.requested_place.Goals as goal

pub returns-else-rules-gt0-clause-before : goal.returns-else-rules-gt0-clause-before
returns-else-rules-gt0-clause-before c = λ some. absurd (omega (arith, some, c.if-rules-gt0.false))
