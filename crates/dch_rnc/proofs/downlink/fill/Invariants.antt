use Rattle.dch_types.specs.declared.channel.Dir.TheVariants.{Down}
use Rattle.dch_accept.specs.HeldSets.{IsSetOf}
use Rattle.dch_rnc.specs.Moves.{AreFilledTo}
use Rattle.dch_rnc.proofs.downlink.fill.Given as goal

abbrev pub invariant-loop-i : goal.invariant-loop-i
invariant-loop-i l = record {
  blocks : IsSetOf l.accepted.config Down l.set l.blocks;
  filled : AreFilledTo l.accepted.config l.i l.set l.layer l.blocks;
}
