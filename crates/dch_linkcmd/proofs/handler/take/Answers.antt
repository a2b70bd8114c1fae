use Rattle.std.proofs.Common.{◌≡◌, rules, subst}
use Rattle.dch_link.specs.LinkNodes.{event_of}
use Rattle.dch_linkcmd.specs.LineEvents.{Says}
use Rattle.dch_linkcmd.specs.Reading.{said_of}
use Rattle.dch_linkcmd.specs.Taking.{TakesEvent}
use Rattle.dch_linkcmd.specs.declared.reading.LinkLine.{LinkLine}
use Rattle.dch_linkcmd.proofs.handler.take.Goals as goal

pub returns-in-Ok-Happens-clause-ok : goal.returns-in-Ok-Happens-clause-ok
returns-in-Ok-Happens-clause-ok g c =
    let planned = c.args.accepted.now in
    let same : c.happen.new.filter.page.now ≡ _ = search rules in
    subst (λ (r : g.row.P.Denot). TakesEvent g.P.Page.writes planned c.args.line.now c.args.quiet c.args.link.now c.happen.new.link c.args.page.now r) same (record {
      event = event_of c.in-Ok-Happens.event;
      says = subst (λ (said : LinkLine). Says planned.config c.args.line.now (said_of said)) c.in-Ok-Happens.field-0-is c.in-Ok-Happens.ensures.says;
      happens = c.happen.ensures.shows;
    })
