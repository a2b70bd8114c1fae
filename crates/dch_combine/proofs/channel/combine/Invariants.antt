use Rattle.std.proofs.Common.{◌≡◌, ◌<◌, ℕ}
use Rattle.dch_types.specs.declared.channel.Dir.TheVariants.{Up}
use Rattle.dch_types.specs.Parts.{channel_at}
use Rattle.dch_accept.specs.HeldSets.{IsSetOf, held_at}
use Rattle.dch_combine.specs.Combined.{IsCombinedTti}
use Rattle.dch_combine.specs.Values.{frames_in}
use Rattle.dch_combine.proofs.channel.combine.Given as goal

abbrev pub invariant-loop-i : goal.invariant-loop-i
invariant-loop-i l = record {
  combined : (j : ℕ) → j < l.i → (channel_at l.accepted.config.uplink.side j).set ≡ l.set → IsCombinedTti (frames_in l.legs) j (held_at l.out.blocks j);
  out : IsSetOf l.accepted.config Up l.set l.out;
  room : l.tti.room ≡ l.fn.tti.room;
}
