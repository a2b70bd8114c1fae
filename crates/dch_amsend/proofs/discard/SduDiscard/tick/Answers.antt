use Rattle.dch_amsend.proofs.Discards.{ticked_stands}
use Rattle.dch_amsend.proofs.discard.SduDiscard.tick.Goals as goal

pub returns-clause-history : goal.returns-clause-history
returns-clause-history c = λ rules s now ticks is. ticked_stands rules c.args.self.now c.grow_older.new.self s now c.grow_older.ensures.after ticks is
