use Rattle.std.proofs.Common.{subst}
use Rattle.dch_layer2.specs.BearerStanding.{Represents}
use Rattle.dch_layer2.proofs.Bearings.{am_ticks}
use Rattle.dch_layer2.proofs.bearer.Bearer.tick.Goals as goal

pub returns-in-Am : goal.returns-in-Am
returns-in-Am c config out into b old is = am_ticks config out into b old c.in-Am.bearer c.tick.new.self (subst (Represents config out into b old) c.in-Am.is is) c.tick.ensures.sides c.tick.ensures.same
