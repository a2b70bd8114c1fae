use Rattle.std.proofs.Common.{◌≡◌, ◌<◌, ℕ}
use Rattle.dch_types.specs.declared.channel.Dir.TheVariants.{Up}
use Rattle.dch_types.specs.Parts.{channel_at}
use Rattle.dch_accept.specs.HeldSets.{IsSetOf, held_at}
use Rattle.dch_ulphy.specs.Read.{IsTtiRead}
use Rattle.dch_nodeb.specs.Opened.{IsReceiverOf}
use Rattle.dch_nodeb.proofs.receiver.UplinkReceiver.read_set.Given as goal

abbrev pub invariant-loop-i : goal.invariant-loop-i
invariant-loop-i l = record {
  read : (j : ℕ) → j < l.i → (channel_at l.accepted.config.uplink.side j).set ≡ l.set → IsTtiRead l.accepted l.fn.self.rx_frames j (held_at l.blocks.blocks j);
  blocks : IsSetOf l.accepted.config Up l.set l.blocks;
  opened : IsReceiverOf l.accepted l.self;
  same : l.self.rx_frames ≡ l.fn.self.rx_frames;
}
