use Rattle.std.proofs.Common.{◌+◌, List, sym, subst}
use Rattle.dch_nodeb.specs.Opened.{AreNewRxBuffers}
use Rattle.dch_nodeb.specs.Values.{IubRxBuffer}
use Rattle.dch_nodeb.proofs.Keeping.{new_place}
use Rattle.dch_nodeb.proofs.iub_rx_buffer.rx_buffers.Goals as goal

pub loop-set-preserved : goal.loop-set-preserved
loop-set-preserved c =
    subst (λ (rx_buffers : List IubRxBuffer). AreNewRxBuffers c.args.accepted.now (c.loop-set.set + 1) rx_buffers) (sym c.in_ok-push.ensures.items)
    (new_place c.args.accepted.now c.loop-set.set c.loop-set.rx_buffers.items c.in_ok-open.field-0 c.loop-set.invariant c.in_ok-open.ensures.empty c.in_ok-open.ensures.idle)
