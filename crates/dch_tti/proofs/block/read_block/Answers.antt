use Rattle.std.proofs.Common.{length}
use Rattle.dch_tti.proofs.Few.{half_is_coded, third_is_coded, few_copies}
use Rattle.dch_tti.proofs.block.read_block.Goals as goal

pub nearest-copies-requires-clause-few : goal.nearest-copies-requires-clause-few
nearest-copies-requires-clause-few c = few_copies c.args.coding c.args.votes.now (length c.args.out.now) (c.requires.short (half_is_coded c.args.coding c.in-Half.is)) c.requires.coded c.requires.few

pub nearest-copies-requires-in-Third-clause-few : goal.nearest-copies-requires-in-Third-clause-few
nearest-copies-requires-in-Third-clause-few c = few_copies c.args.coding c.args.votes.now (length c.args.out.now) (c.requires.short (third_is_coded c.args.coding c.in-Third.is)) c.requires.coded c.requires.few
