use Rattle.std.proofs.Common.{refl}
use Rattle.dch_collision.specs.Copies.{downlink_copies}
use Rattle.dch_margin.proofs.Visits.{in_format}
use Rattle.dch_margin.proofs.format.find_down.Goals as goal

pub returns-clause-finding : goal.returns-clause-finding
returns-clause-finding c =
    in_format c.args.config.now.side (downlink_copies c.args.config.now) c.args.i c.args.f c.first.new.out c.least_down-least.result (c.if-not-first.ensures.found refl).legal c.least_down-least.ensures.least
