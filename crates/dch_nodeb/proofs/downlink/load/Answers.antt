use Rattle.std.proofs.Common.{◌≡◌, ◌+◌, ◌∙◌, ℕ, ap, sym, subst}
use Rattle.dch_types.specs.declared.channel.Side.{Side}
use Rattle.dch_types.specs.declared.channel.Trch.{Trch}
use Rattle.dch_types.specs.Parts.{channel_at}
use Rattle.dch_accept.specs.HeldSets.{held_at}
use Rattle.dch_nodeb.specs.Moves.{AreGiven}
use Rattle.dch_types.specs.Timing.{starts}
use Rattle.dch_nodeb.specs.Values.{DownlinkTransmitter, rx_buffer_at}
use Rattle.dch_nodeb.proofs.Giving.{given_off, given_on}
use Rattle.dch_nodeb.proofs.downlink.load.Goals as goal
use Rattle.dch_nodeb.proofs.downlink.load.Goals.{then-starts, else-starts}

pub loop-i-preserved : goal.loop-i-preserved
loop-i-preserved c =
    let planned = c.args.accepted.now in
    let i : ℕ = c.loop-i.i in
    let channel : c.channel-channel.result.now ≡ channel_at planned.config.downlink.side i = c.channel-channel.ensures.value ∙ ap (λ (side : Side). channel_at side i) c.side-side.ensures.value in
    let test : starts (channel_at planned.config.downlink.side i).frames c.args.cfn ≡ c.starts.result =
    ap (λ (t : Trch). starts t.frames c.args.cfn) (sym channel) ∙ sym c.starts.ensures.value in
    elim c.if-starts.branch [
      | then-starts w ↦ subst (λ (transmitter : DownlinkTransmitter). AreGiven planned c.args.cfn (i + 1) c.args.rx_buffers.now c.args.transmitter.now transmitter) (sym w.transmitter-is)
          (given_on planned c.args.cfn i c.args.rx_buffers.now w.blocks_of.result.now c.args.transmitter.now c.loop-i.transmitter w.load.new.self c.loop-i.invariant (test ∙ w.if-starts.true)
          (w.blocks_of.ensures ∙ ap (λ (t : Trch). held_at (rx_buffer_at c.args.rx_buffers.now t.set).held.blocks i) channel) w.load.ensures)
      | else-starts w ↦ subst (λ (transmitter : DownlinkTransmitter). AreGiven planned c.args.cfn (i + 1) c.args.rx_buffers.now c.args.transmitter.now transmitter) (sym w.transmitter-is)
          (given_off planned c.args.cfn i c.args.rx_buffers.now c.args.transmitter.now c.loop-i.transmitter c.loop-i.invariant (test ∙ w.if-starts.false))
    ]
