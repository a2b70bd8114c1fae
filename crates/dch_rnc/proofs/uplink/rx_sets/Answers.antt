use Rattle.std.proofs.Common.{◌+◌, List, sym, subst}
use Rattle.dch_accept.specs.HeldSets.{HeldSet}
use Rattle.dch_rnc.specs.Opened.{AreNewRxSets}
use Rattle.dch_rnc.proofs.Taking.{new_rx_set}
use Rattle.dch_rnc.proofs.uplink.rx_sets.Goals as goal

pub loop-set-preserved : goal.loop-set-preserved
loop-set-preserved c =
    subst (λ (rx_sets : List HeldSet). AreNewRxSets c.args.accepted.now (c.loop-set.set + 1) rx_sets) (sym c.in_ok-push.ensures.items)
    (new_rx_set c.args.accepted.now c.loop-set.set c.loop-set.rx_sets.items c.in_ok-open.field-0 c.loop-set.invariant c.in_ok-open.ensures.opened)
