use Rattle.std.proofs.Common.{arith}
use Rattle.dch_amrecv.specs.Holding.{numbered}
use Rattle.dch_amrecv.proofs.Runs.{changed_more}
use Rattle.dch_amrecv.proofs.telling.number.Goals as goal

pub loop-i-preserved : goal.loop-i-preserved
loop-i-preserved c =
    changed_more (numbered c.args.next) c.loop-i.i c.loop-i.pairs c.args.pairs.now (omega (arith, c.loop-i-test.true, c.loop-i.auto.pairs)) (omega (arith, c.loop-i-test.true)) c.loop-i.invariant.0 c.loop-i.invariant.1
