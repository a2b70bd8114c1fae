use Rattle.std.proofs.Common.{arith}
use Rattle.dch_trellis.specs.Distance.{copies_at}
use Rattle.dch_collision.specs.Copies.{uplink_copies}
use Rattle.dch_margin.proofs.Counts.{counts_are, own_counts}
use Rattle.dch_margin.proofs.Differ.{in_place_of, least_below}
use Rattle.dch_margin.proofs.format.least_under.Goals as goal

pub least_in_tti-requires-clause-counts : goal.least_in_tti-requires-clause-counts
least_in_tti-requires-clause-counts c = own_counts (uplink_copies c.args.config.now c.args.i c.args.f c.args.sequence.now) c.count_uplink.new.votes c.count_uplink.ensures

pub returns-clause-least : goal.returns-clause-least
returns-clause-least c =
    in_place_of c.args.config.now.side (uplink_copies c.args.config.now) c.args.i c.args.f c.args.sequence.now c.args.sizes.now.coding c.args.sizes.now.plan c.least_in_tti.result c.requires.sizes.coding c.requires.sizes.plan
    (least_below c.args.sizes.now.coding c.args.sizes.now.plan (copies_at c.count_uplink.new.votes) (uplink_copies c.args.config.now c.args.i c.args.f c.args.sequence.now) c.least_in_tti.result
    (λ j inside. counts_are (uplink_copies c.args.config.now c.args.i c.args.f c.args.sequence.now) c.count_uplink.new.votes j c.count_uplink.ensures (omega (arith, inside, c.requires.sizes.whole, c.requires.sizes.fits, c.requires.votes, c.count_uplink.auto.votes)))
    c.least_in_tti.ensures.least)
