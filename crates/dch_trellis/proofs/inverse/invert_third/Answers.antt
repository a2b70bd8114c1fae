use Rattle.std.proofs.Common.{◌*◌, arith}
use Rattle.dch_coding.specs.declared.rate.Rate.TheVariants.{Third}
use Rattle.dch_coding.proofs.Steps.{place_more}
use Rattle.dch_trellis.specs.Inverse.{places, sum_from}
use Rattle.dch_trellis.proofs.inverse.invert_third.Goals as goal

pub loop-k-preserved : goal.loop-k-preserved
loop-k-preserved c = place_more (λ k. sum_from c.args.coded.now (3 * k) (places Third)) c.loop-k.block c.loop-k.k c.sum_from.result (omega arith) c.sum_from.ensures c.loop-k.invariant
