use Rattle.dch_gen.proofs.Advancing.{IsUnderWay, left_of}
use Rattle.dch_gen.proofs.generator.Generator.pass_stages.Given as goal

abbrev pub invariant-loop-next : goal.invariant-loop-next
invariant-loop-next l = IsUnderWay l.next l.initial.self l.self

abbrev pub decreases-loop-next : goal.decreases-loop-next
decreases-loop-next l = left_of l.next
