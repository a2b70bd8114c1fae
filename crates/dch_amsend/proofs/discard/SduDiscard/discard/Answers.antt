use Rattle.dch_amsend.proofs.Discards.{discarding_stands}
use Rattle.dch_amsend.proofs.discard.SduDiscard.discard.Goals as goal

pub returns-clause-history : goal.returns-clause-history
returns-clause-history c = λ rules s r p to is. discarding_stands rules c.args.self.now c.pass.new.self s c.args.to r p c.pass.ensures.after to is
