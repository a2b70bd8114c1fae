use Rattle.dch_rlcpdu.specs.Parts.{parts_of}
use Rattle.dch_sar.proofs.Parts.{Taken}
use Rattle.dch_sar.proofs.reassembler.Reassembler.take_parts.Given as goal

abbrev pub invariant-loop-i : goal.invariant-loop-i
invariant-loop-i l = Taken (parts_of l.body) l.dead l.i l.fn.self l.self
