use Rattle.std.proofs.Common.{◌≡◌, get_or, ap, arith}
use Rattle.dch_link.specs.SoftValues.{LegParts}
use Rattle.dch_link.proofs.Hit.{hit_all, hit_next}
use Rattle.dch_link.proofs.hearing.hit_radios.Goals as goal

pub loop-k-preserved : goal.loop-k-preserved
loop-k-preserved c =
    let it : LegParts = get_or c.loop-k.legs c.loop-k.k c.index-legs-k.result in
    let is : it ≡ get_or c.loop-k.legs c.loop-k.k it = ap (λ (leg : LegParts). get_or c.loop-k.legs c.loop-k.k leg) c.index-legs-k.is in
    hit_next c.loop-k.k c.args.legs.now c.loop-k.legs it c.hit_radio.new.self c.loop-k.invariant (omega (arith, c.loop-k-test.true), is) c.hit_radio.ensures.opened c.hit_radio.ensures.arrives

pub returns-clause-arrive : goal.returns-clause-arrive
returns-clause-arrive c = λ planned first states are.
    hit_all c.args.legs.now c.loop-k.legs c.loop-k.k planned first states (omega (arith, c.loop-k-test.false, c.loop-k.invariant.all)) c.loop-k.invariant are
