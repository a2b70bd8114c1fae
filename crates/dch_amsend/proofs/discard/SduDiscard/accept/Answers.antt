use Rattle.dch_amsend.proofs.Discards.{accept_stands}
use Rattle.dch_amsend.proofs.discard.SduDiscard.accept.Goals as goal

pub returns-clause-history : goal.returns-clause-history
returns-clause-history c = λ rules s unit cut is. accept_stands rules c.args.self.now c.push.new.self s unit c.push.ensures.after cut is
