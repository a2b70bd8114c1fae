use Rattle.dch_tti.specs.Loaded.{AreEmpty}
use Rattle.dch_tti.proofs.tti_buffer.tti_buffers.Given as goal

abbrev pub invariant-loop-i : goal.invariant-loop-i
invariant-loop-i l = AreEmpty l.accepted l.dir l.i l.tti_buffers.items
