use Rattle.std.proofs.Common.{subst, sym}
use Rattle.dch_amrecv.specs.Standing.{Stands, given_after}
use Rattle.dch_pair.specs.EntityStanding.{Represents, Running}
use Rattle.dch_amrecv.proofs.Histories.{hand_on}
use Rattle.dch_pair.proofs.Events.{rules_stay}
use Rattle.dch_pair.proofs.entity.AmEntity.next_unit.Goals as goal

pub returns-clause-answer : goal.returns-clause-answer
returns-clause-answer c rules e is =
    let here : Represents rules (record { sender = c.self.inside.sender; receiver = c.self.inside.receiver }) e = subst (λ v. Represents rules v e) (sym c.self.view_is) is in
    c.next_unit.ensures.next e.handed e.receiver here.receiver

pub returns-clause-unit : goal.returns-clause-unit
returns-clause-unit c rules e is =
    let here : Represents rules (record { sender = c.self.inside.sender; receiver = c.self.inside.receiver }) e = subst (λ v. Represents rules v e) (sym c.self.view_is) is in
    c.next_unit.ensures.octets e.handed e.receiver here.receiver

pub returns-clause-stands : goal.returns-clause-stands
returns-clause-stands c rules e is =
    let v : Running = record { sender = c.self.inside.sender; receiver = c.self.inside.receiver } in
    let here : Represents rules v e = subst (λ v. Represents rules v e) (sym c.self.view_is) is in
    record {
      rules_are = rules_stay rules v e c.next_unit.new.self here c.next_unit.ensures.same.rules;
      sender = here.sender;
      receiver = subst (λ n. Stands c.next_unit.new.self n e.receiver) (hand_on e.handed e.receiver.reading.units)
          (subst (λ o. Stands c.next_unit.new.self (given_after o e.handed) e.receiver) (c.next_unit.ensures.next e.handed e.receiver here.receiver) (c.next_unit.ensures.stands e.handed e.receiver here.receiver));
    }
