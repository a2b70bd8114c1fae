use Rattle.std.proofs.Common.{refl}
use Rattle.dch_nodecmd.specs.Handlers.{Handler}
use Rattle.dch_nodecmd.proofs.Changing.{opened_ready}
use Rattle.dch_nodecmd.proofs.handler.NodeHandler.open.Goals as goal

pub returns-clause-ready : goal.returns-clause-ready
returns-clause-ready g c =
    let node = g.N.CommandNode in
    let handler : Handler g.row.N.Denot = record { accepted = c.args.accepted; later = c.args.later; node = c.in-Ok.node; quiet = c.args.quiet; frames = 0 } in
    opened_ready node.rules node.is_opened node.has_next node.represents node.shows handler c.args.first_cfn refl c.requires.cfn c.in-Ok.ensures.opened c.in-Ok.ensures.next c.requires.follows c.in-Ok.ensures.stands
