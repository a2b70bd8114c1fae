use Rattle.dch_lines.proofs.Filtering.{told_on}
use Rattle.dch_link.specs.SoftPassing.{leg_of}
use Rattle.dch_link.specs.SoftStages.{AtStage}
use Rattle.dch_linkcmd.proofs.Showing.{shows_led}
use Rattle.dch_linkcmd.proofs.soft_filter.pass.Goals as goal

pub returns-clause-shows : goal.returns-clause-shows
returns-clause-shows g c = λ first state was.
    shows_led g.P.Page.writes g.met.P.Page.nothing g.met.P.Page.joined c.args.accepted.now first (leg_of c.args.stage) (AtStage c.args.stage state) c.pass.new.self c.args.filter.now c.pass.new.user c.requires.lead (c.pass.ensures.passes first state was)

pub returns-clause-same : goal.returns-clause-same
returns-clause-same g c = (told_on g.P.Page.writes g.met.P.Page.nothing g.met.P.Page.joined c.args.filter.now c.pass.new.user c.pass.ensures.few.lines c.pass.ensures.few.told).same
