use Rattle.dch_margin.proofs.BlockBits.{least_part, near_part}
use Rattle.dch_margin.proofs.nearest.nearest_code.Goals as goal
use Rattle.std.proofs.Common.{length}

pub nearest_block-requires-clause-least : goal.nearest_block-requires-clause-least
nearest_block-requires-clause-least c = least_part c.args.coding c.args.plan.now c.args.votes.now c.args.r (length c.args.code.now) (length c.args.block.now) c.filler_of.result c.args.least c.requires.code c.requires.block c.filler_of.ensures c.requires.least

pub returns-clause-near : goal.returns-clause-near
returns-clause-near c = near_part c.args.coding c.args.plan.now c.args.votes.now c.args.r (length c.args.code.now) (length c.args.block.now) c.filler_of.result c.args.least c.nearest_block.new.block c.code_block.new.code c.requires.code c.requires.block c.filler_of.ensures c.nearest_block.ensures.nearest c.code_block.ensures
