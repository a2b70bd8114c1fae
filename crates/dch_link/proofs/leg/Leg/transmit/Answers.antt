use Rattle.std.proofs.Common.{refl, sym, subst}
use Rattle.dch_nodeb.specs.State.{DownlinkDue}
use Rattle.dch_node.specs.Standing.{Tells}
use Rattle.dch_link.specs.SoftNodes.{RepresentsLeg}
use Rattle.dch_link.specs.SoftValues.{LegParts}
use Rattle.dch_link.specs.contracts.leg.Leg.{the_view}
use Rattle.dch_link.proofs.SoftNexts.{leg_goes}
use Rattle.dch_link.proofs.leg.Leg.transmit.Goals as goal

pub returns-clause-transmits : goal.returns-clause-transmits
returns-clause-transmits g c = λ first leg was.
    let planned = c.args.accepted.now in
    let it : LegParts = the_view c.self.inside in
    let is : RepresentsLeg planned first leg it = subst (λ (l : LegParts). RepresentsLeg planned first leg l) (sym c.self.view_is) was in
    leg_goes planned first leg it DownlinkDue c.step_with.new.self (Tells g.U.Indications.shows c.args.user.now c.step_with.new.user) is (c.step_with.ensures.step planned leg.node_b.state refl is.node_b.stands)
