use Rattle.dch_margin.proofs.Few.{few_copies, half_is_coded, third_is_coded}
use Rattle.dch_margin.proofs.distance.least_in_block.Goals as goal

pub least_distance-requires-clause-few : goal.least_distance-requires-clause-few
least_distance-requires-clause-few c = few_copies c.args.coding c.args.votes.now c.args.size (c.requires.short (half_is_coded c.args.coding c.in-Half.is)) c.requires.coded c.requires.counts

pub least_distance-requires-in-Third-clause-few : goal.least_distance-requires-in-Third-clause-few
least_distance-requires-in-Third-clause-few c = few_copies c.args.coding c.args.votes.now c.args.size (c.requires.short (third_is_coded c.args.coding c.in-Third.is)) c.requires.coded c.requires.counts
