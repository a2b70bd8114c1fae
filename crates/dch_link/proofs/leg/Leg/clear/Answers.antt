use Rattle.std.proofs.Common.{[], sym, subst}
use Rattle.dch_link.specs.SoftNodes.{IsLegOf, RepresentsLeg}
use Rattle.dch_link.specs.SoftValues.{LegParts}
use Rattle.dch_link.specs.contracts.leg.Leg.{the_view}
use Rattle.dch_link.proofs.SoftNexts.{with_damage}
use Rattle.dch_link.proofs.leg.Leg.clear.Goals as goal

pub returns-clause-opened : goal.returns-clause-opened
returns-clause-opened c = λ planned were.
    let it : LegParts = the_view c.self.inside in
    let opened : IsLegOf planned it = subst (λ (l : LegParts). IsLegOf planned l) (sym c.self.view_is) were in
    record { node_b = opened.node_b; damage = c.clear.ensures.opened planned opened.damage }

pub returns-clause-clear : goal.returns-clause-clear
returns-clause-clear c = λ planned first leg was.
    let it : LegParts = the_view c.self.inside in
    let is : RepresentsLeg planned first leg it = subst (λ (l : LegParts). RepresentsLeg planned first leg l) (sym c.self.view_is) was in
    with_damage planned first leg it [] c.clear.new.self is c.clear.ensures.none
