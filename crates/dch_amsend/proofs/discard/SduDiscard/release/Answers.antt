use Rattle.dch_amsend.proofs.Discards.{released_stands}
use Rattle.dch_amsend.proofs.discard.SduDiscard.release.Goals as goal

pub returns-clause-history : goal.returns-clause-history
returns-clause-history c = λ rules s now told is. released_stands rules c.args.self.now c.leave.new.self s now c.args.sdus c.leave.ensures.after told is
