use Rattle.std.proofs.Common.{arith}
use Rattle.dch_retx.proofs.Sending.{new_sends, sends_as}
use Rattle.dch_retx.proofs.buffer.RetxBuffer.push.Goals as goal

pub returns-clause-history : goal.returns-clause-history
returns-clause-history c = λ rules s d is new e. sends_as rules _ _ _ _ _ _ c.sends_new.ensures.poll c.sends_new.ensures.after (new_sends rules c.args.self.now s c.args.pdu c.args.left d (omega (arith, c.requires.room, is.window)) new e is)
