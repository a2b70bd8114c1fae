use Rattle.dch_linkcmd.proofs.Ready.{opened_between}
use Rattle.dch_linkcmd.proofs.handler.LinkHandler.open.Goals as goal

pub returns-clause-ready : goal.returns-clause-ready
returns-clause-ready c =
    opened_between c.args.accepted c.args.later c.in-Ok-open_link.link c.args.first_cfn c.args.quiet c.requires.cfn c.in-Ok-open_link.ensures.opened c.in-Ok-open_link.ensures.next c.in-Ok-open_link.ensures.stands
