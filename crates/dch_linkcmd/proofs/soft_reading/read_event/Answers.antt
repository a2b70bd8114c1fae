use Rattle.std.proofs.Common.{sym, subst}
use Rattle.dch_script.specs.Good.{IsTraffic}
use Rattle.dch_script.specs.ParsedLine.{parsed_of}
use Rattle.dch_script.specs.declared.event.Event.{Event}
use Rattle.dch_link.specs.SoftNodes.{MayCome}
use Rattle.dch_link.specs.declared.soft_event.SoftEvent.{SoftEvent}
use Rattle.dch_linkcmd.proofs.soft_reading.read_event.Goals.{in-Block, in-Free, in-Unit}
use Rattle.dch_linkcmd.proofs.soft_reading.read_event.Goals as goal

pub returns-clause-comes : goal.returns-clause-comes
returns-clause-comes c = λ legs.
    let planned = c.args.accepted.now in
    elim c.match-event.branch [
      | in-Unit w ↦ subst (λ (e : SoftEvent). MayCome planned legs e) (sym w.event-is) (w.offer-event.ensures.comes legs)
      | in-Block w ↦ subst (λ (e : SoftEvent). MayCome planned legs e) (sym w.event-is) (subst (λ (e : Event). IsTraffic planned.config (parsed_of e)) w.in-Block.is c.requires.good).0
      | in-Free w ↦ subst (λ (e : SoftEvent). MayCome planned legs e) (sym w.event-is) (subst (λ (e : Event). IsTraffic planned.config (parsed_of e)) w.in-Free.is c.requires.good).0
    ]
