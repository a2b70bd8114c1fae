use Rattle.std.proofs.Common.{sym, subst}
use Rattle.dch_accept.specs.Plans.{Planned}
use Rattle.dch_nodecmd.specs.Handlers.{RepresentsHistory}
use Rattle.dch_top.proofs.handlers.NodeHandlerNodesHandler.hold.Goals as goal

pub returns : goal.returns
returns g c = λ run stands.
    let node = g.N.CommandNode in
    let active = g.met.N.CommandNode.active c.args.self.accepted run.node c.args.self.node stands.stands in
    (c.into_node.result, (c.put.ensures, subst (λ (p : Planned). RepresentsHistory node.rules node.represents node.shows run.began p run.first run.events run.lines c.into_node.result) (sym active) (c.into_node.ensures.history run stands)))
