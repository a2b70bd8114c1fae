use Rattle.dch_lines.proofs.Filtering.{told_on}
use Rattle.dch_link.specs.Stages.{AtStage}
use Rattle.dch_linkcmd.proofs.Showing.{shows_seen}
use Rattle.dch_linkcmd.proofs.filter.pass.Goals as goal

pub returns-clause-shows : goal.returns-clause-shows
returns-clause-shows g c = λ began first nodes was.
    shows_seen g.P.Page.writes g.met.P.Page.nothing g.met.P.Page.joined began c.args.accepted.now first (AtStage c.args.stage nodes) c.pass.new.self c.args.filter.now c.pass.new.user c.requires.lead (c.pass.ensures.passes began first nodes was)

pub returns-clause-same : goal.returns-clause-same
returns-clause-same g c = (told_on g.P.Page.writes g.met.P.Page.nothing g.met.P.Page.joined c.args.filter.now c.pass.new.user c.pass.ensures.few.lines c.pass.ensures.few.told).same
