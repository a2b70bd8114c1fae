use Rattle.std.proofs.Common.{arith, ap}
use Rattle.dch_script.specs.Held.{Held}
use Rattle.dch_gen.proofs.Sizes.{decimal_short}
use Rattle.dch_gen.proofs.summary.put_count.Goals as goal

pub put_number-requires : goal.put_number-requires
put_number-requires c = omega (arith, decimal_short c.args.count c.ranges.count.fits, ap (λ (h : Held). h.most) c.put_text.ensures.text)

pub returns-clause-few : goal.returns-clause-few
returns-clause-few c = omega (arith, decimal_short c.args.count c.ranges.count.fits)
