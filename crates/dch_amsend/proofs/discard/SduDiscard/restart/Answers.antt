use Rattle.dch_amsend.proofs.Discards.{restarted_stands}
use Rattle.dch_amsend.proofs.discard.SduDiscard.restart.Goals as goal

pub returns-clause-history : goal.returns-clause-history
returns-clause-history c = λ rules s many cut is. restarted_stands rules c.args.self.now c.keep.new.self s c.args.kept c.keep.ensures.after many cut is
