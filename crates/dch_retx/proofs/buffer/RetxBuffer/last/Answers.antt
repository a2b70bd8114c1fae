use Rattle.dch_retx.proofs.Sending.{last_sends, sends_as}
use Rattle.dch_retx.proofs.buffer.RetxBuffer.last.Goals as goal

pub returns-clause-history : goal.returns-clause-history
returns-clause-history c = λ rules s d is last none. sends_as rules _ _ _ _ _ _ c.sends_last.ensures.poll c.sends_last.ensures.after (last_sends rules c.args.self.now s c.args.place d c.requires last none is)
