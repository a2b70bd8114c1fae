use Rattle.dch_trellis.proofs.Told.{zero-told, one-told}
use Rattle.dch_trellis.proofs.undamaged.fitting.Goals as goal

pub returns-clause-zero : goal.returns-clause-zero
returns-clause-zero c = zero-told c.args.step.now c.args.outputs c.more_zeros-zeros.result c.more_ones-ones.result c.requires c.more_zeros-zeros.ensures c.more_ones-ones.ensures

pub returns-clause-one : goal.returns-clause-one
returns-clause-one c = one-told c.args.step.now c.args.outputs c.more_zeros-zeros.result c.more_ones-ones.result c.requires c.more_zeros-zeros.ensures c.more_ones-ones.ensures
