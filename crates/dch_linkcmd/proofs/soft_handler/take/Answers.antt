use Rattle.std.proofs.Common.{◌≡◌, rules, subst}
use Rattle.dch_link.specs.SoftNodes.{event_of}
use Rattle.dch_linkcmd.specs.SoftLineEvents.{OneEvent, Says}
use Rattle.dch_linkcmd.specs.SoftReading.{said_of}
use Rattle.dch_linkcmd.specs.SoftTaking.{TakesEvent}
use Rattle.dch_linkcmd.specs.declared.soft_reading.SoftLine.{SoftLine}
use Rattle.dch_linkcmd.proofs.soft_handler.take.Goals as goal

pub returns-in-Ok-Happens-clause-ok : goal.returns-in-Ok-Happens-clause-ok
returns-in-Ok-Happens-clause-ok g c =
    let planned = c.args.accepted.now in
    let same : c.happen.new.filter.page.now ≡ _ = search rules in
    subst (λ (r : g.row.P.Denot). TakesEvent g.P.Page.writes planned c.args.line.now c.args.quiet c.args.soft.now c.happen.new.soft c.args.page.now r) same (record {
      event = event_of c.in-Ok-Happens.event;
      says = subst (λ n. Says n planned.config c.args.line.now (OneEvent (event_of c.in-Ok-Happens.event))) c.legs.ensures
          (subst (λ (said : SoftLine). Says c.legs.result planned.config c.args.line.now (said_of said)) c.in-Ok-Happens.field-0-is c.in-Ok-Happens.ensures.says);
      happens = c.happen.ensures.shows;
    })
