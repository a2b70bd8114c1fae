use Rattle.std.proofs.Common.{◌+◌, ◌-◌, ◌∙◌, length, refl}
use Rattle.dch_txbuf.specs.Cuts.{left_at}
use Rattle.dch_txbuf.proofs.Marking.{all_ended, all_padded}
use Rattle.dch_txbuf.proofs.body.write_parts.Goals as goal

pub returns-then-cut-clause-indicators : goal.returns-then-cut-clause-indicators
returns-then-cut-clause-indicators c = all_padded c.args.lead (length c.args.indicators.now + length c.args.octets.now) (length c.write_pieces-carried.new.indicators - 1) c.args.cut.now (left_at c.args.start.now c.args.sdus.now.items) c.write_pieces-carried.new.indicators c.write_indicator.new.indicators c.requires.there (c.write_pieces-carried.ensures.number ∙ c.requires.count) c.write_pieces-carried.ensures.indicators c.requires.padded c.if-cut.true refl c.write_indicator.ensures

pub returns-else-cut-clause-indicators : goal.returns-else-cut-clause-indicators
returns-else-cut-clause-indicators c = all_ended c.args.lead (length c.args.indicators.now + length c.args.octets.now) c.args.cut.now (left_at c.args.start.now c.args.sdus.now.items) c.write_pieces-carried.new.indicators c.requires.there (c.write_pieces-carried.ensures.number ∙ c.requires.count) c.write_pieces-carried.ensures.indicators c.requires.padded c.if-cut.false
