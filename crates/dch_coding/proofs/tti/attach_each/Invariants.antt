use Rattle.dch_coding.specs.Ttis.{ArePartsUpTo}
use Rattle.dch_coding.proofs.tti.attach_each.Given as goal

abbrev pub invariant-loop-i : goal.invariant-loop-i
invariant-loop-i l = ArePartsUpTo l.i l.kind l.format.size l.blocks l.out
