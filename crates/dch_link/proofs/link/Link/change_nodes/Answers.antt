use Rattle.std.proofs.Common.{◌∙◌, sym, subst}
use Rattle.dch_node.specs.Standing.{Tells}
use Rattle.dch_link.specs.LinkNodes.{CanChange, HasNext, Represents}
use Rattle.dch_link.specs.Values.{Nodes}
use Rattle.dch_link.specs.contracts.link.Link.{the_view}
use Rattle.dch_link.proofs.Changing.{node_b_unsaid, nodes_change, rnc_unsaid, ue_unsaid}
use Rattle.dch_link.proofs.link.Link.change_nodes.Goals as goal

pub returns-clause-opened : goal.returns-clause-opened
returns-clause-opened g c =
    let can : CanChange c.args.accepted.now (the_view c.self.inside) = subst (λ (n : Nodes). CanChange c.args.accepted.now n) (sym c.self.view_is) c.requires.opened in
    record { ue = c.step_with-3.ensures.opened; node_b = c.step_with-2.ensures.opened; rnc = c.step_with.ensures.opened; damage = can.next.damage }

pub returns-clause-changes : goal.returns-clause-changes
returns-clause-changes g c = λ began before first link was next.
    let second = c.args.accepted.now in
    let nodes : Nodes = the_view c.self.inside in
    let is : Represents began before first link nodes = subst (λ (n : Nodes). Represents began before first link n) (sym c.self.view_is) was in
    let has : HasNext before second nodes = subst (λ (n : Nodes). HasNext before second n) (sym c.self.view_is) next in
    nodes_change began before second first link nodes c.step_with.new.self c.step_with-2.new.self c.step_with-3.new.self (Tells g.U.Indications.shows c.args.user.now c.step_with.new.user) (Tells g.U.Indications.shows c.step_with.new.user c.step_with-2.new.user) (Tells g.U.Indications.shows c.step_with-2.new.user c.step_with-3.new.user) is
    (c.step_with.ensures.step before link.rnc.state has.rnc is.rnc.stands) (c.step_with-2.ensures.step before link.node_b.state has.node_b is.node_b.stands) (c.step_with-3.ensures.step before link.ue.state has.ue is.ue.stands)

pub returns-clause-same : goal.returns-clause-same
returns-clause-same g c =
    let second = c.args.accepted.now in
    let can : CanChange second (the_view c.self.inside) = subst (λ (n : Nodes). CanChange second n) (sym c.self.view_is) c.requires.opened in
    ue_unsaid g.U.Indications.shows second can.opened.link.ue.state c.step_with-3.new.self c.step_with-2.new.user c.step_with-3.new.user (c.step_with-3.ensures.step can.before can.opened.link.ue.state can.next.ue can.opened.stands.ue.stands)
    ∙ node_b_unsaid g.U.Indications.shows second can.opened.link.node_b.state c.step_with-2.new.self c.step_with.new.user c.step_with-2.new.user (c.step_with-2.ensures.step can.before can.opened.link.node_b.state can.next.node_b can.opened.stands.node_b.stands)
    ∙ rnc_unsaid g.U.Indications.shows second can.opened.link.rnc.state c.step_with.new.self c.args.user.now c.step_with.new.user (c.step_with.ensures.step can.before can.opened.link.rnc.state can.next.rnc can.opened.stands.rnc.stands)
