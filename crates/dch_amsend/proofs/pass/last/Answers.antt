use Rattle.std.proofs.Common.{arith, sym}
use Rattle.dch_amsend.proofs.Passing.{passed_all}
use Rattle.dch_amsend.proofs.pass.last.Goals as goal

pub returns-then-passed-ended-clause-value : goal.returns-then-passed-ended-clause-value
returns-then-passed-ended-clause-value c = sym (passed_all c.args.rules c.args.held.now c.args.outgoing.now.line.in_flight (omega (arith, c.passed.ensures, c.ended.ensures, c.if-passed-ended.true)))
