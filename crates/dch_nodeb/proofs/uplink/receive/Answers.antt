use Rattle.std.proofs.Common.{sym, subst}
use Rattle.dch_types.specs.declared.channel.Dir.TheVariants.{Up}
use Rattle.dch_tti.specs.RxFrames.{RxFrames}
use Rattle.dch_txframes.specs.Opened.{IsTxBufferOf}
use Rattle.dch_txframes.specs.Values.{IubTxBuffer}
use Rattle.dch_txframes.proofs.Sending.{tx_buffer_in}
use Rattle.dch_nodeb.specs.Moves.{Delivered}
use Rattle.dch_nodeb.proofs.Serving.{none_served, served_next}
use Rattle.dch_nodeb.proofs.uplink.receive.Goals as goal

pub loop-set-init : goal.loop-set-init
loop-set-init g c = none_served g.U.Indications.shows c.args.accepted.now c.args.tx_buffers.now c.push.new.self c.args.user.now c.requires.tx_buffers c.push.ensures.opened c.requires.quiet

pub deliver_set-requires-clause-tx_buffer : goal.deliver_set-requires-clause-tx_buffer
deliver_set-requires-clause-tx_buffer g c =
    subst (λ (l : IubTxBuffer). IsTxBufferOf c.args.accepted.now Up c.loop-set.set l)
    (sym (tx_buffer_in c.args.accepted.now Up c.loop-set.tx_buffers c.loop-set.set c.index-tx_buffers-set.result c.loop-set.invariant.tx_buffers_opened c.loop-set-test.true))
    (c.loop-set.invariant.tx_buffers_opened.each c.loop-set.set c.loop-set-test.true)

pub loop-set-preserved : goal.loop-set-preserved
loop-set-preserved g c =
    served_next g.U.Indications.shows c.args.accepted.now c.push.new.self.rx_frames c.loop-set.set c.loop-set.tx_buffers c.deliver_set.new.tx_buffer c.loop-set.receiver c.deliver_set.new.receiver c.args.user.now c.loop-set.user c.deliver_set.new.user
    c.loop-set.invariant c.loop-set-test.true
    (subst (λ (rx_frames : RxFrames). Delivered g.U.Indications.shows c.args.accepted.now rx_frames c.loop-set.set c.deliver_set.new.tx_buffer c.deliver_set.new.receiver c.loop-set.user c.deliver_set.new.user) c.loop-set.invariant.same c.deliver_set.ensures)
