use Rattle.std.proofs.Common.{◌∙◌, arith, sym}
use Rattle.dch_types.proofs.Sets.{among_small}
use Rattle.dch_types.proofs.channel.Side.has_set.Goals as goal

pub returns-clause-small : goal.returns-clause-small
returns-clause-small c good is = among_small c.args.self.now c.args.set c.loop-i.i good (omega (arith, c.loop-i.auto.i-end, c.len-i-end.ensures)) (sym c.loop-i.invariant ∙ is)
