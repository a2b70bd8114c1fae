use Rattle.dch_ulphy.proofs.Demultiplexed.{AreHeard}
use Rattle.dch_ulphy.proofs.demultiplexing.demultiplex_tti.Given as goal

abbrev pub invariant-loop-n : goal.invariant-loop-n
invariant-loop-n l = AreHeard l.accepted l.rx_frames l.channel l.votes l.n
