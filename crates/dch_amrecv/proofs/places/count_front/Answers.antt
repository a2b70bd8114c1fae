use Rattle.std.proofs.Common.{◌∙◌, arith, sym}
use Rattle.dch_amrecv.proofs.Fronts.{front_here, front_none}
use Rattle.dch_amrecv.proofs.places.count_front.Goals as goal

pub returns-then-not-is_taken-clause-value : goal.returns-then-not-is_taken-clause-value
returns-then-not-is_taken-clause-value c = omega (arith, c.loop-i.invariant, front_none c.args.ring.now.items c.loop-i.i (sym c.is_taken.ensures ∙ c.if-not-is_taken.true))

pub loop-i-preserved : goal.loop-i-preserved
loop-i-preserved c = omega (arith, c.loop-i.invariant, front_here c.args.ring.now.items c.loop-i.i (sym c.is_taken.ensures ∙ c.if-not-is_taken.false))
