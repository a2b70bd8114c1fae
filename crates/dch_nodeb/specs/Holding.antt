-- What a Node B holds for a configuration, as contracts see it.
use Rattle.dch_nodeb.specs.Values.{Parts}
use Rattle.dch_nodeb.specs.declared.parts.Parts.{Parts as PartsHeld}

abbrev pub parts_of : PartsHeld → Parts
parts_of p = record {
  rx_buffers = p.rx_buffers.items;
  transmitter = p.transmitter;
  receiver = p.receiver;
  tx_buffers = p.tx_buffers.items;
}
