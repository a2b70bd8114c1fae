use Rattle.dch_retx.proofs.Sending.{again_sends, sends_as}
use Rattle.dch_retx.proofs.buffer.RetxBuffer.again.Goals as goal

pub returns-clause-history : goal.returns-clause-history
returns-clause-history c = λ rules s d is. sends_as rules _ _ _ _ _ _ c.sends_again.ensures.poll c.sends_again.ensures.after (again_sends rules c.args.self.now s c.args.place d c.requires is)
