-- Octets within a block.
use Rattle.std.proofs.Common.{◌∙◌}
use Rattle.dch_pool.proofs.Contents.{within-block}
use Rattle.dch_pool.proofs.parts.overwrite.Goals as goal

pub returns : goal.returns
returns c = c.write_from.ensures ∙ within-block c.args.size c.args.at c.args.number c.args.region.now c.args.octets.now c.requires.inside c.requires.block
