use Rattle.std.proofs.Common.{arith, get_or, refl}
use Rattle.dch_rlcpdu.proofs.Texts.{pair_next}
use Rattle.dch_rlcpdu.proofs.put.put_pairs.Goals as goal

pub loop-i-preserved : goal.loop-i-preserved
loop-i-preserved c =
    pair_next c.args.pairs.now c.loop-i.i c.args.at (get_or c.args.pairs.now c.loop-i.i (0, 0)) c.args.out.now c.loop-i.out c.put_pair.new.out (omega arith) refl c.loop-i.invariant c.put_pair.ensures
