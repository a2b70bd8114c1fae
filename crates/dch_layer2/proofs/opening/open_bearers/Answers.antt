use Rattle.std.proofs.Common.{◌+◌, List, subst, sym}
use Rattle.dch_layer2.specs.declared.bearer.Bearer.{Bearer}
use Rattle.dch_layer2.specs.Opening.{AreOpened}
use Rattle.dch_layer2.proofs.Openings.{opened_more}
use Rattle.dch_layer2.proofs.opening.open_bearers.Goals as goal

pub loop-b-preserved : goal.loop-b-preserved
loop-b-preserved c =
    subst (λ (xs : List Bearer). AreOpened c.args.accepted.now.config c.args.out c.args.into (c.loop-b.b + 1) xs) (sym c.in_ok-push.ensures.items)
    (opened_more c.args.accepted.now.config c.args.out c.args.into c.loop-b.b c.loop-b.bearers.items c.in_ok-open.field-0 c.loop-b.invariant c.in_ok-open.ensures)
