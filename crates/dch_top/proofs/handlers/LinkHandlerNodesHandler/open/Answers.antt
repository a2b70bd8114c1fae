use Rattle.std.proofs.Common.{◌*◌, Option, IfSome, sym, subst}
use Rattle.std.specs.Prelude.{IfOk}
use Rattle.dch_lines.specs.Coming.{CanFollow}
use Rattle.dch_lines.specs.declared.later.Later.{Later}
use Rattle.dch_runlaw.specs.LinkcmdRun.{opened_run}
use Rattle.dch_runlaw.specs.LinkHandlers.{RepresentsRun}
use Rattle.dch_top.proofs.Fronts.{second_follows}
use Rattle.dch_top.proofs.handlers.LinkHandlerNodesHandler.open.Goals as goal

pub open-requires-clause-follows : goal.open-requires-clause-follows
open-requires-clause-follows c = subst (λ (l : Option Later). IfSome l (CanFollow c.args.accepted.first)) (sym c.later_of.ensures) (second_follows c.requires.front.0 c.args.accepted c.requires.front.1)

pub returns-clause-opened : goal.returns-clause-opened
returns-clause-opened c = subst (λ (l : Option Later). IfOk c.open.result (RepresentsRun (opened_run c.args.accepted.first l (8 * c.args.arguments.start) c.args.arguments.quiet))) c.later_of.ensures c.open.ensures.stands
