use Rattle.std.proofs.Common.{None}
use Rattle.dch_node.specs.Standing.{Tells}
use Rattle.dch_lines.specs.Filtering.{ShowsSeen}
use Rattle.dch_nodecmd.specs.Handlers.{ShowsLines}
use Rattle.dch_lines.proofs.Filtering.{told_on, told_shown}
use Rattle.dch_nodecmd.proofs.FilterSteps.{changes_such}
use Rattle.dch_nodecmd.proofs.node_filter.change.Goals as goal

pub returns-clause-steps : goal.returns-clause-steps
returns-clause-steps g c =
    let node = g.N.CommandNode in
    let page = g.P.Page in
    changes_such node.rules node.represents node.has_next node.shows c.args.accepted.now c.args.node.now c.change.new.self (Tells (ShowsSeen page.writes) c.args.filter.now c.change.new.user) (ShowsLines page.writes c.args.filter.now.quiet c.args.filter.now.page.now c.change.new.user.page.now)
    (λ lines told. told_shown page.writes g.met.P.Page.nothing g.met.P.Page.joined None c.args.filter.now c.change.new.user lines c.requires.lead told) c.change.ensures.steps

pub returns-clause-page : goal.returns-clause-page
returns-clause-page g c = (told_on g.P.Page.writes g.met.P.Page.nothing g.met.P.Page.joined c.args.filter.now c.change.new.user c.change.ensures.told.0 c.change.ensures.told.1).same
