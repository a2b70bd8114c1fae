use Rattle.std.proofs.Common.{[], Some, subst, sym}
use Rattle.dch_ue.specs.Opened.{IsNodeOf}
use Rattle.dch_ue.specs.Standing.{RepresentsHistory}
use Rattle.dch_ue.specs.Values.{Node}
use Rattle.dch_ue.specs.contracts.node.Ue.{the_view}
use Rattle.dch_ue.proofs.Opening.{next_is, next_stands}
use Rattle.dch_ue.proofs.node.Ue.open_both.Goals as goal

pub returns-clause-opened : goal.returns-clause-opened
returns-clause-opened c = next_is c.args.first.now (the_view c.ue.inside) (Some c.in_ok-open.field-0) (subst (λ (n : Node). IsNodeOf c.args.first.now n) (sym c.ue.view_is) c.in_ok-ue.ensures.opened)

pub returns-clause-stands : goal.returns-clause-stands
returns-clause-stands c =
    next_stands c.args.first.now c.args.first.now c.args.first_cfn [] [] (the_view c.ue.inside) (Some c.in_ok-open.field-0)
    (subst (λ (n : Node). RepresentsHistory c.args.first.now c.args.first.now c.args.first_cfn [] [] n) (sym c.ue.view_is) c.in_ok-ue.ensures.stands)

pub returns-clause-next : goal.returns-clause-next
returns-clause-next c = record { kept = c.requires.kept; parts = c.in_ok-open.ensures }
