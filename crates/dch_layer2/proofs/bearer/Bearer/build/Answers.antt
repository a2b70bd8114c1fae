use Rattle.std.proofs.Common.{◌≡◌, subst, true}
use Rattle.std.specs.Prelude.{IsSome}
use Rattle.dch_layer2.specs.BearerStanding.{Represents}
use Rattle.dch_layer2.specs.BearerValues.{um_due}
use Rattle.dch_layer2.proofs.Bearings.{am_builds, am_turn, tm_builds, tm_sends, um_builds, um_due_is}
use Rattle.dch_layer2.proofs.bearer.Bearer.build.Goals as goal

pub build-requires-in-Um-clause-due : goal.build-requires-in-Um-clause-due
build-requires-in-Um-clause-due c =
    um_due_is c.requires.config c.requires.out c.requires.into c.requires.b c.requires.bearing c.in-Um.bearer (subst (Represents c.requires.config c.requires.out c.requires.into c.requires.b c.requires.bearing) c.in-Um.is c.requires.stands) c.requires.some

pub build-requires-in-Am-clause-due : goal.build-requires-in-Am-clause-due
build-requires-in-Am-clause-due c =
    am_turn c.requires.config c.requires.out c.requires.into c.requires.b c.requires.bearing c.in-Am.bearer (subst (Represents c.requires.config c.requires.out c.requires.into c.requires.b c.requires.bearing) c.in-Am.is c.requires.stands) c.requires.some

pub returns-in-Tm : goal.returns-in-Tm
returns-in-Tm c config dir into b old is =
    let sends : IsSome c.in-Tm.bearer.sender =
    tm_sends c.requires.config c.requires.out c.requires.into c.requires.b c.requires.bearing c.in-Tm.bearer (subst (Represents c.requires.config c.requires.out c.requires.into c.requires.b c.requires.bearing) c.in-Tm.is c.requires.stands) c.requires.some in
    tm_builds config dir into b old c.in-Tm.bearer c.build.new.self c.build.new.out (subst (Represents config dir into b old) c.in-Tm.is is) sends c.build.ensures

pub returns-in-Um : goal.returns-in-Um
returns-in-Um c config dir into b old is =
    let due : um_due c.in-Um.bearer ≡ true =
    um_due_is c.requires.config c.requires.out c.requires.into c.requires.b c.requires.bearing c.in-Um.bearer (subst (Represents c.requires.config c.requires.out c.requires.into c.requires.b c.requires.bearing) c.in-Um.is c.requires.stands) c.requires.some in
    um_builds config dir into b old c.in-Um.bearer c.build-in-Um.new.self c.build-in-Um.new.out (subst (Represents config dir into b old) c.in-Um.is is) due c.build-in-Um.ensures.block c.build-in-Um.ensures.octets c.build-in-Um.ensures.after

pub returns-in-Am : goal.returns-in-Am
returns-in-Am c config dir into b old is =
    am_builds config dir into b old c.in-Am.bearer c.build-in-Am.new.self c.build-in-Am.new.out (subst (Represents config dir into b old) c.in-Am.is is) c.build-in-Am.ensures.built c.build-in-Am.ensures.same
