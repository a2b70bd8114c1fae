use Rattle.std.proofs.Common.{subst}
use Rattle.dch_layer2.specs.BearerStanding.{Represents}
use Rattle.dch_layer2.proofs.Bearings.{am_hears, am_told}
use Rattle.dch_layer2.proofs.bearer.Bearer.take.Goals as goal

pub returns-in-Am-clause-told : goal.returns-in-Am-clause-told
returns-in-Am-clause-told g c config out into b old is =
    am_told g.U.Indications.shows config out into b old c.in-Am.bearer c.args.bits.now c.args.user.now c.take-in-Am.new.user (subst (Represents config out into b old) c.in-Am.is is) c.take-in-Am.ensures.told

pub returns-in-Am-clause-stands : goal.returns-in-Am-clause-stands
returns-in-Am-clause-stands g c config out into b old is =
    am_hears config out into b old c.in-Am.bearer c.take-in-Am.new.self c.args.bits.now (subst (Represents config out into b old) c.in-Am.is is) c.take-in-Am.ensures.sides c.take-in-Am.ensures.same
