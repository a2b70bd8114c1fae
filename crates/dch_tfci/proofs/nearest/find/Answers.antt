use Rattle.dch_tfci.proofs.Whole.{distances-le, picked-nearest}
use Rattle.dch_tfci.proofs.Weights.{few_wrong}
use Rattle.dch_tfci.proofs.nearest.find.Goals as goal

pub pick-requires-clause-most : goal.pick-requires-clause-most
pick-requires-clause-most c = λ k m low lane. distances-le c.args.received.now c.all_costs.new.table.costs k m c.requires c.all_costs.ensures low lane

pub returns-clause-nearest : goal.returns-clause-nearest
returns-clause-nearest c = picked-nearest c.args.received.now c.all_costs.new.table.costs c.pick.result.index c.pick.result.distance c.requires c.all_costs.ensures c.pick.ensures

pub returns-clause-corrected : goal.returns-clause-corrected
returns-clause-corrected c index small close =
    few_wrong c.args.received.now c.pick.result.index c.pick.result.distance index
    (picked-nearest c.args.received.now c.all_costs.new.table.costs c.pick.result.index c.pick.result.distance c.requires c.all_costs.ensures c.pick.ensures)
    small c.requires close
