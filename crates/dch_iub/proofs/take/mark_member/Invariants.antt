use Rattle.dch_accept.specs.HeldSets.{held_at}
use Rattle.dch_iub.specs.Taken.{AreSet, IsMarkedAs, Replaces}
use Rattle.dch_iub.proofs.take.mark_member.Given as goal

abbrev pub invariant-loop-b : goal.invariant-loop-b
invariant-loop-b l = record {
  marked : AreSet l.frame l.bit l.b (held_at l.out.blocks l.channel);
  same : IsMarkedAs (held_at l.fn.out.blocks l.channel) (held_at l.out.blocks l.channel);
  others : Replaces l.channel l.fn.out l.out;
}
