use Rattle.std.proofs.Common.{List, length, subst}
use Rattle.dch_types.specs.declared.channel.Side.{Side}
use Rattle.dch_types.specs.Limits.{IsSide}
use Rattle.dch_nodeb.specs.Moves.{AreGiven}
use Rattle.dch_nodeb.specs.Values.{IubRxBuffer}
use Rattle.dch_nodeb.proofs.Opening.{new_transmitter}
use Rattle.dch_nodeb.proofs.parts.Parts.open.Goals as goal

pub returns : goal.returns
returns c = record {
  rx_buffers = c.in_ok-rx_buffers.ensures;
  transmitter = new_transmitter c.args.accepted.now c.in_ok-rx_buffers.rx_buffers.items c.in_ok-transmitter.transmitter c.load.new.transmitter
      (subst (λ (side : Side). IsSide side) c.side-side.ensures.value c.side-side.ensures.good) c.in_ok-rx_buffers.ensures c.in_ok-transmitter.ensures.quiet
      (subst (λ (rx_buffers : List IubRxBuffer). AreGiven c.args.accepted.now 0 (length c.args.accepted.now.config.downlink.side.channels) rx_buffers c.in_ok-transmitter.transmitter c.load.new.transmitter) c.deref.ensures.value c.load.ensures);
  receiver = record { opened = c.in_ok-open.ensures.opened; missing = c.in_ok-open.ensures.missing };
  tx_buffers = c.in_ok-tx_buffers.ensures;
}
