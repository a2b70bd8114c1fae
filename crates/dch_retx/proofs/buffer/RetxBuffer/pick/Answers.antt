use Rattle.std.proofs.Common.{◌∙◌, ap}
use Rattle.dch_am.specs.Sender.{vt_a}
use Rattle.dch_retx.specs.Standing.{chosen}
use Rattle.dch_retx.proofs.Picking.{picked_is}
use Rattle.dch_retx.proofs.buffer.RetxBuffer.pick.Goals as goal

pub returns-clause-history : goal.returns-clause-history
returns-clause-history c = λ rules s is e. ap (chosen (vt_a s)) c.picks.ensures.place ∙ picked_is rules c.args.self.now s c.args.left is e
