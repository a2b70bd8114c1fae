use Rattle.std.proofs.Common.{arith}
use Rattle.dch_trellis.specs.Distance.{copies_at}
use Rattle.dch_collision.specs.Copies.{uplink_copies}
use Rattle.dch_margin.proofs.FewestCells.{sure_in_format}
use Rattle.dch_margin.proofs.format.sure_distance.Goals as goal

pub returns-clause-sure : goal.returns-clause-sure
returns-clause-sure c =
    sure_in_format c.args.config.now.side (uplink_copies c.args.config.now) c.args.i c.args.f c.args.sizes.now (copies_at c.count_fewest.new.votes) c.least_in_tti.result c.requires.sizes
    (λ j inside. c.count_fewest.ensures.fewest j (omega (arith, inside, c.requires.sizes.bits, c.requires.sizes.fits, c.requires.votes, c.count_fewest.auto.votes)))
    c.least_in_tti.ensures.least
