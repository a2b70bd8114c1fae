use Rattle.dch_lines.proofs.Filtering.{told_on}
use Rattle.std.proofs.Common.{None}
use Rattle.dch_link.specs.SoftEvents.{Happens}
use Rattle.dch_link.specs.SoftNodes.{event_of}
use Rattle.dch_linkcmd.proofs.Showing.{shows_led}
use Rattle.dch_linkcmd.proofs.soft_filter.happen.Goals as goal

pub returns-clause-shows : goal.returns-clause-shows
returns-clause-shows g c = λ first state was.
    shows_led g.P.Page.writes g.met.P.Page.nothing g.met.P.Page.joined c.args.accepted.now first None (Happens state (event_of c.args.event)) c.happen.new.self c.args.filter.now c.happen.new.user c.requires.lead (c.happen.ensures.happens first state was)

pub returns-clause-same : goal.returns-clause-same
returns-clause-same g c = (told_on g.P.Page.writes g.met.P.Page.nothing g.met.P.Page.joined c.args.filter.now c.happen.new.user c.happen.ensures.few.lines c.happen.ensures.few.told).same
