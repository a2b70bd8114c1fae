use Rattle.dch_lines.proofs.Filtering.{told_on}
use Rattle.dch_link.specs.Events.{Happens}
use Rattle.dch_link.specs.LinkNodes.{event_of}
use Rattle.dch_linkcmd.proofs.Showing.{shows_seen}
use Rattle.dch_linkcmd.proofs.filter.happen.Goals as goal

pub returns-clause-shows : goal.returns-clause-shows
returns-clause-shows g c = λ began first nodes was.
    shows_seen g.P.Page.writes g.met.P.Page.nothing g.met.P.Page.joined began c.args.accepted.now first (Happens nodes (event_of c.args.event)) c.happen.new.self c.args.filter.now c.happen.new.user c.requires.lead (c.happen.ensures.happens began first nodes was)

pub returns-clause-same : goal.returns-clause-same
returns-clause-same g c = (told_on g.P.Page.writes g.met.P.Page.nothing g.met.P.Page.joined c.args.filter.now c.happen.new.user c.happen.ensures.few.lines c.happen.ensures.few.told).same
