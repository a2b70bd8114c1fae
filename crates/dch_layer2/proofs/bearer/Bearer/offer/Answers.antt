use Rattle.std.proofs.Common.{subst}
use Rattle.std.specs.Prelude.{IsSome}
use Rattle.dch_layer2.specs.BearerStanding.{Represents}
use Rattle.dch_layer2.proofs.Bearings.{am_answers, am_offers, tm_answers, tm_can, tm_offers}
use Rattle.dch_layer2.proofs.bearer.Bearer.offer.Goals as goal

sends : (c : goal.After-offer) → IsSome c.in-Tm.bearer.sender
sends c = tm_can c.requires.config c.requires.out c.requires.into c.requires.b c.requires.bearing c.in-Tm.bearer (subst (Represents c.requires.config c.requires.out c.requires.into c.requires.b c.requires.bearing) c.in-Tm.is c.requires.stands) c.requires.sends

pub returns-in-Tm-clause-answer : goal.returns-in-Tm-clause-answer
returns-in-Tm-clause-answer c config out into b old is =
    tm_answers config out into b old c.in-Tm.bearer c.args.octets.now c.args.bits.now c.offer.result (subst (Represents config out into b old) c.in-Tm.is is) (sends c) c.offer.ensures.answer

pub returns-in-Tm-clause-stands : goal.returns-in-Tm-clause-stands
returns-in-Tm-clause-stands c config out into b old is =
    tm_offers config out into b old c.in-Tm.bearer c.offer.new.self c.args.octets.now c.args.bits.now c.offer.result (subst (Represents config out into b old) c.in-Tm.is is) (sends c) c.offer.ensures.answer c.offer.ensures.after

pub returns-in-Am-clause-answer : goal.returns-in-Am-clause-answer
returns-in-Am-clause-answer c config out into b old is = am_answers config out into b old c.in-Am.bearer c.args.octets.now c.args.bits.now c.offer-in-Am.result (subst (Represents config out into b old) c.in-Am.is is) c.offer-in-Am.ensures.answer

pub returns-in-Am-clause-stands : goal.returns-in-Am-clause-stands
returns-in-Am-clause-stands c config out into b old is =
    am_offers config out into b old c.in-Am.bearer c.offer-in-Am.new.self c.args.octets.now c.args.bits.now (subst (Represents config out into b old) c.in-Am.is is) c.offer-in-Am.ensures.sides c.offer-in-Am.ensures.same
