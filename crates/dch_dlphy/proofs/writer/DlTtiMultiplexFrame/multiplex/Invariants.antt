use Rattle.dch_dlphy.proofs.Sent.{IsMultiplexed}
use Rattle.dch_dlphy.proofs.writer.DlTtiMultiplexFrame.multiplex.Given as goal

abbrev pub invariant-loop-i : goal.invariant-loop-i
invariant-loop-i l = IsMultiplexed l.accepted l.tti_buffers l.cfn l.combination l.out l.i l.at
