use Rattle.std.proofs.Common.{◌∙◌}
use Rattle.dch_retx.proofs.Ticking.{number_is}
use Rattle.dch_retx.proofs.buffer.RetxBuffer.number_at.Goals as goal

pub returns-clause-history : goal.returns-clause-history
returns-clause-history c = λ rules s is. c.number_of.ensures.number ∙ number_is rules c.args.self.now s c.args.place c.requires is
