use Rattle.std.proofs.Common.{sym, subst}
use Rattle.dch_types.specs.declared.channel.Dir.TheVariants.{Down}
use Rattle.dch_txframes.specs.Opened.{IsTxBufferOf}
use Rattle.dch_txframes.specs.Values.{IubTxBuffer}
use Rattle.dch_txframes.proofs.Sending.{tx_buffer_in}
use Rattle.dch_rnc.proofs.Sending.{none_served, served_next}
use Rattle.dch_rnc.proofs.downlink.send_sets.Goals as goal

pub loop-set-init : goal.loop-set-init
loop-set-init g c = none_served g.U.Indications.shows c.args.accepted.now c.args.cfn c.args.layer.now c.args.tx_buffers.now c.args.user.now c.requires.tx_buffers c.requires.quiet

pub send_set-requires-clause-tx_buffer : goal.send_set-requires-clause-tx_buffer
send_set-requires-clause-tx_buffer g c =
    subst (λ (l : IubTxBuffer). IsTxBufferOf c.args.accepted.now Down c.loop-set.set l)
    (sym (tx_buffer_in c.args.accepted.now Down c.loop-set.tx_buffers c.loop-set.set c.index-tx_buffers-set.result c.loop-set.invariant.opened c.loop-set-test.true))
    (c.loop-set.invariant.opened.each c.loop-set.set c.loop-set-test.true)

pub loop-set-preserved : goal.loop-set-preserved
loop-set-preserved g c =
    served_next g.U.Indications.shows c.args.accepted.now c.args.cfn c.args.layer.now c.loop-set.set c.loop-set.tx_buffers c.send_set.new.tx_buffer c.args.user.now c.loop-set.user c.send_set.new.user
    c.loop-set.invariant c.loop-set-test.true c.send_set.ensures
