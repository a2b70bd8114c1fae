use Rattle.std.proofs.Common.{◌≡◌, get_or, ap, arith}
use Rattle.dch_link.specs.SoftValues.{LegParts}
use Rattle.dch_link.proofs.Hit.{clear_all, clear_next}
use Rattle.dch_link.proofs.hearing.clear_damage.Goals as goal

pub loop-k-preserved : goal.loop-k-preserved
loop-k-preserved c =
    let it : LegParts = get_or c.loop-k.legs c.loop-k.k c.index-legs-k.result in
    let is : it ≡ get_or c.loop-k.legs c.loop-k.k it = ap (λ (leg : LegParts). get_or c.loop-k.legs c.loop-k.k leg) c.index-legs-k.is in
    clear_next c.loop-k.k c.args.legs.now c.loop-k.legs it c.clear.new.self c.loop-k.invariant (omega (arith, c.loop-k-test.true), is) c.clear.ensures.opened c.clear.ensures.clear

pub returns-clause-clear : goal.returns-clause-clear
returns-clause-clear c = λ planned first states are.
    clear_all c.args.legs.now c.loop-k.legs c.loop-k.k planned first states (omega (arith, c.loop-k-test.false, c.loop-k.invariant.all)) c.loop-k.invariant are
