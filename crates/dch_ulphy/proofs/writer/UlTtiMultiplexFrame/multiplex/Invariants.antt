use Rattle.dch_ulphy.proofs.Sent.{IsMultiplexed}
use Rattle.dch_ulphy.proofs.writer.UlTtiMultiplexFrame.multiplex.Given as goal

abbrev pub invariant-loop-i : goal.invariant-loop-i
invariant-loop-i l = IsMultiplexed l.accepted l.tti_buffers l.cfn l.combination l.out l.i l.at
