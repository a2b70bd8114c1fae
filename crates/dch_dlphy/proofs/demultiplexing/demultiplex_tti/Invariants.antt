use Rattle.std.proofs.Common.{◌≡◌, ◌<◌, ℕ, length, get_or}
use Rattle.dch_bits.specs.declared.bit.Trit.TheVariants.{Off}
use Rattle.dch_types.specs.Parts.{channel_at}
use Rattle.dch_inter.specs.Places.{frame_of}
use Rattle.dch_dlphy.specs.Read.{tti_cell}
use Rattle.dch_dlphy.proofs.demultiplexing.demultiplex_tti.Given as goal

abbrev pub invariant-loop-n : goal.invariant-loop-n
invariant-loop-n l = (p : ℕ) → p < length l.out → frame_of (channel_at l.accepted.config.downlink.side l.channel).frames (length l.out) p < l.n → get_or l.out p Off ≡ tti_cell l.accepted l.rx_frames l.channel (length l.out) p
