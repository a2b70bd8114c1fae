use Rattle.dch_coding.proofs.Sizes.{filler_few, size_short}
use Rattle.dch_coding.proofs.cutting.plan.Goals as goal

pub returns-clause-few : goal.returns-clause-few
returns-clause-few c some = rw (c.block_size-size.ensures, c.block_count-blocks.ensures) (filler_few c.args.x c.args.coding some)

pub returns-clause-short : goal.returns-clause-short
returns-clause-short c coded = rw (c.block_size-size.ensures, c.block_count-blocks.ensures) (size_short c.args.x c.args.coding coded)
