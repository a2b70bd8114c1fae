use Rattle.std.proofs.Common.{◌∙◌, length, arith}
use Rattle.dch_margin.proofs.FromZeros.{Begins, begins, found_there, none_more}
use Rattle.dch_margin.proofs.nearest.nearest_coded.Goals as goal

pub returns-then-begins_at-clause-nearest : goal.returns-then-begins_at-clause-nearest
returns-then-begins_at-clause-nearest c =
    found_there c.args.rate c.args.votes.now c.loop-k.votes (length c.args.block.now) (length c.loop-k.block) c.args.filler c.args.least c.begins_at.new.block c.loop-k.invariant.votes c.loop-k.invariant.long (c.begins_at.ensures.nearest c.if-begins_at.true)

pub loop-k-preserved : goal.loop-k-preserved
loop-k-preserved c = record {
  none = none_more c.args.rate c.args.votes.now c.loop-k.votes (length c.args.block.now) (length c.loop-k.block) c.args.filler c.args.least c.loop-k.k c.begins_at.result c.loop-k.invariant.votes c.loop-k.invariant.long c.begins_at.ensures.begins c.if-begins_at.false c.loop-k.invariant.none;
  votes = c.begins_at.ensures.votes ∙ c.loop-k.invariant.votes;
  long = c.begins_at.ensures.long ∙ c.loop-k.invariant.long;
  kept = c.begins_at.ensures.kept ∙ c.loop-k.invariant.kept;
}

pub unreachable-requires : goal.unreachable-requires
unreachable-requires c =
    let there : Begins c.args.rate c.args.votes.now (length c.args.block.now) c.args.filler c.args.least = begins c.args.rate c.args.votes.now (length c.args.block.now) c.args.filler c.args.least c.requires.coded c.requires.zeros c.requires.least.has in
    c.loop-k.invariant.none there.place (omega (arith, there.is.inside, c.loop-k.invariant.long)) there.is
