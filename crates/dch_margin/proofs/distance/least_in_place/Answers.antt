use Rattle.dch_margin.proofs.BlockBits.{least_here}
use Rattle.dch_margin.proofs.distance.least_in_place.Goals as goal

pub returns-clause-least : goal.returns-clause-least
returns-clause-least c =
    least_here c.args.coding c.args.plan.now c.args.votes.now c.args.r c.coded_block-coded.result c.filler_of.result c.least_in_block.result c.coded_block-coded.ensures c.filler_of.ensures c.least_in_block.ensures.least
