use Rattle.std.proofs.Common.{◌≡◌, None, ap}
use Rattle.dch_node.specs.Standing.{Tells}
use Rattle.dch_script.specs.ParsedLine.{parsed_of}
use Rattle.dch_lines.specs.Filtering.{ShowsSeen}
use Rattle.dch_nodecmd.specs.Handlers.{ShowsLines}
use Rattle.dch_lines.specs.declared.filter.Filter.{Filter}
use Rattle.dch_lines.proofs.Filtering.{told_on, told_shown}
use Rattle.dch_nodecmd.proofs.FilterSteps.{takes_such}
use Rattle.dch_nodecmd.proofs.node_filter.take.Goals as goal

pub returns-clause-took : goal.returns-clause-took
returns-clause-took g c =
    let node = g.N.CommandNode in
    let page = g.P.Page in
    takes_such node.rules node.represents node.shows c.args.accepted.now (parsed_of c.args.event) c.args.node.now c.take.new.self (Tells (ShowsSeen page.writes) c.args.filter.now c.take.new.user) (ShowsLines page.writes c.args.filter.now.quiet c.args.filter.now.page.now c.take.new.user.page.now) (c.take.new.user ≡ c.args.filter.now) (c.take.new.user.page.now ≡ c.args.filter.now.page.now) c.take.result
    (λ lines told. told_shown page.writes g.met.P.Page.nothing g.met.P.Page.joined None c.args.filter.now c.take.new.user lines c.requires.lead told)
    (λ same. ap (λ (f : Filter g.row.P.Denot). f.page.now) same) c.take.ensures.took

pub returns-clause-page : goal.returns-clause-page
returns-clause-page g c = (told_on g.P.Page.writes g.met.P.Page.nothing g.met.P.Page.joined c.args.filter.now c.take.new.user c.take.ensures.told.0 c.take.ensures.told.1).same
