use Rattle.std.proofs.Common.{◌∙◌, ap, drop, refl, subst, sym}
use Rattle.dch_sar.specs.Taking.{handed_of, written}
use Rattle.dch_amrecv.specs.Holding.{Holding, after_unit}
use Rattle.dch_amrecv.specs.Standing.{IsSame}
use Rattle.dch_amrecv.proofs.Handing.{handed_cut, next_stands, none_same, written_cut}
use Rattle.dch_am.specs.ReceiverHistory.{HandUp}
use Rattle.dch_am.specs.Rules.{rules_of}
use Rattle.dch_amrecv.proofs.Histories.{handed_on, happened}
use Rattle.dch_amrecv.proofs.recv.AmRecv.next_unit.Goals as goal

pub returns-clause-none : goal.returns-clause-none
returns-clause-none c = none_same c.args.self.now c.next_unit.new.self c.next_unit.result (c.next_unit.ensures.answer ∙ ap (λ (h : Holding). handed_of h.kept.units.waiting) c.self.view_is) (c.next_unit.ensures.rest ∙ ap after_unit c.self.view_is)

pub returns-clause-next : goal.returns-clause-next
returns-clause-next c given r s = (c.next_unit.ensures.answer ∙ ap (λ (h : Holding). handed_of h.kept.units.waiting) c.self.view_is) ∙ (ap handed_of s.units.waiting ∙ handed_cut (drop given r.reading.units))

pub returns-clause-octets : goal.returns-clause-octets
returns-clause-octets c given r s =
    c.next_unit.ensures.unit
    ∙ (ap (λ (h : Holding). written h.kept.units.waiting c.args.out.now) c.self.view_is
    ∙ (ap (λ us. written us c.args.out.now) s.units.waiting ∙ written_cut (drop given r.reading.units) c.args.out.now))

pub returns-clause-stands : goal.returns-clause-stands
returns-clause-stands c given r s =
    next_stands c.args.self.now c.next_unit.new.self given r c.next_unit.result (c.next_unit.ensures.answer ∙ ap (λ (h : Holding). handed_of h.kept.units.waiting) c.self.view_is) (c.next_unit.ensures.rest ∙ ap after_unit c.self.view_is) (returns-clause-none c) s

pub returns-clause-same : goal.returns-clause-same
returns-clause-same c = subst (IsSame c.args.self.now) (sym (c.next_unit.ensures.rest ∙ ap after_unit c.self.view_is)) (record { rules = refl; pdu = refl; reply = refl })

pub returns-clause-history : goal.returns-clause-history
returns-clause-history c = λ rules events. happened rules events HandUp c.args.self.now _ (returns-clause-same c).rules (λ side is. handed_on (rules_of rules.buffer c.args.self.now.rules) c.next_unit.new.self side c.next_unit.result (returns-clause-next c side.handed side.receiver is) (returns-clause-stands c side.handed side.receiver is))
