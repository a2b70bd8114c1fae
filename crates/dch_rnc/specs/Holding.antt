-- What a network controller holds for a configuration, as contracts see it.
use Rattle.dch_rnc.specs.Values.{Next, Parts}
use Rattle.dch_rnc.specs.declared.parts.Next.{Next as NextHeld}
use Rattle.dch_rnc.specs.declared.parts.Parts.{Parts as PartsHeld}

abbrev pub parts_of : PartsHeld → Parts
parts_of p = record { channel_sets = p.channel_sets.items; rx_sets = p.rx_sets.items; tx_buffers = p.tx_buffers.items }

abbrev pub next_of : NextHeld → Next
next_of n = record { layer = n.layer; parts = parts_of n.parts }
