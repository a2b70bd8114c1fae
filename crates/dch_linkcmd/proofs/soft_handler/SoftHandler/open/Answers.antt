use Rattle.dch_linkcmd.proofs.SoftFraming.{opened_between}
use Rattle.dch_linkcmd.proofs.soft_handler.SoftHandler.open.Goals as goal

pub returns-clause-ready : goal.returns-clause-ready
returns-clause-ready c = opened_between c.args.accepted c.in-Ok-open.soft c.args.first_cfn c.args.legs c.args.quiet c.in-Ok-open.ensures.opened c.in-Ok-open.ensures.stands
