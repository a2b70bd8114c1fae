use Rattle.std.proofs.Common.{subst, sym}
use Rattle.dch_config.specs.Good.{IsGood}
use Rattle.dch_layer2.specs.BearerStanding.{Represents}
use Rattle.dch_layer2.proofs.KeptBearers.{am_fits_on, am_goes_on, tm_goes_on, um_fits_on, um_goes_on}
use Rattle.dch_layer2.proofs.bearer.Bearer.change.Goals as goal

pub change-requires : goal.change-requires
change-requires c =
    let before = (c.requires.keeps.there).1 c.requires.there in
    um_fits_on c.requires.first c.args.accepted.now.config c.args.out c.requires.into c.requires.b c.requires.bearing c.in-Um.bearer (c.requires.keeps.same before) c.requires.there
    (subst (Represents c.requires.first c.args.out c.requires.into c.requires.b c.requires.bearing) c.in-Um.is c.requires.stands)

pub change-requires-in-Am : goal.change-requires-in-Am
change-requires-in-Am c =
    let before = (c.requires.keeps.there).1 c.requires.there in
    am_fits_on c.requires.first c.args.accepted.now.config c.args.out c.requires.into c.requires.b c.requires.bearing c.in-Am.bearer (c.requires.keeps.same before) c.requires.there
    (subst (Represents c.requires.first c.args.out c.requires.into c.requires.b c.requires.bearing) c.in-Am.is c.requires.stands)

pub returns-in-Tm : goal.returns-in-Tm
returns-in-Tm c first into b old is kept there =
    subst (Represents c.args.accepted.now.config c.args.out into b old) (sym c.in-Tm.is)
    (tm_goes_on first c.args.accepted.now.config c.args.out into b old c.in-Tm.field-0 (subst IsGood c.config-config.ensures.value c.config-config.ensures.good) (kept.same (kept.there.1 there))
    (subst (Represents first c.args.out into b old) c.in-Tm.is is))

pub returns-in-Um : goal.returns-in-Um
returns-in-Um c first into b old is kept there =
    um_goes_on first c.args.accepted.now.config c.args.out into b old c.in-Um.bearer c.change.new.self (kept.same (kept.there.1 there)) c.change.ensures (subst (Represents first c.args.out into b old) c.in-Um.is is)

pub returns-in-Am : goal.returns-in-Am
returns-in-Am c first into b old is kept there =
    am_goes_on first c.args.accepted.now.config c.args.out into b old c.in-Am.bearer c.change-in-Am.new.self (kept.same (kept.there.1 there)) c.change-in-Am.ensures (subst (Represents first c.args.out into b old) c.in-Am.is is)
