use Rattle.std.proofs.Common.{◌∙◌}
use Rattle.dch_retx.proofs.Ticking.{due_is}
use Rattle.dch_retx.proofs.buffer.RetxBuffer.mrw_due.Goals as goal

pub returns-clause-history : goal.returns-clause-history
returns-clause-history c = λ rules s is. c.is_due.ensures.due ∙ due_is rules c.args.self.now s is
