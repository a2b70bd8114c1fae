use Rattle.std.proofs.Common.{subst}
use Rattle.dch_types.specs.declared.channel.Side.{Side}
use Rattle.dch_rnc.specs.Opened.{AreChannelSets}
use Rattle.dch_rnc.proofs.parts.Parts.open.Goals as goal

pub returns : goal.returns
returns c = record {
  channel_sets = subst (λ (side : Side). AreChannelSets side c.in_ok-channel_sets.field-0.items) c.side.ensures.value c.in_ok-channel_sets.ensures;
  rx_sets = c.in_ok-rx_sets.ensures;
  tx_buffers = c.in_ok-tx_buffers.ensures;
}
