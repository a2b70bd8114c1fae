use Rattle.std.proofs.Common.{◌+◌, List, sym, subst}
use Rattle.dch_txframes.specs.Sending.{AreNewTxBuffers}
use Rattle.dch_txframes.specs.Values.{IubTxBuffer}
use Rattle.dch_txframes.proofs.Sending.{new_tx_buffer}
use Rattle.dch_txframes.proofs.iub_tx_buffer.tx_buffers.Goals as goal

pub loop-set-preserved : goal.loop-set-preserved
loop-set-preserved c =
    subst (λ (tx_buffers : List IubTxBuffer). AreNewTxBuffers c.args.accepted.now c.args.dir (c.loop-set.set + 1) tx_buffers) (sym c.in_ok-push.ensures.items)
    (new_tx_buffer c.args.accepted.now c.args.dir c.loop-set.set c.loop-set.tx_buffers.items c.in_ok-open.field-0 c.loop-set.invariant c.in_ok-open.ensures.opened c.in_ok-open.ensures.quiet)
