use Rattle.std.proofs.Common.{subst, sym}
use Rattle.dch_am.specs.Telling.{tick_receiver}
use Rattle.dch_pair.specs.EntityStanding.{Represents, Running}
use Rattle.dch_pair.proofs.Events.{follows, rules_stay}
use Rattle.dch_pair.proofs.entity.AmEntity.tick.Goals as goal

pub returns-clause-stands : goal.returns-clause-stands
returns-clause-stands c rules e is =
    let v : Running = record { sender = c.self.inside.sender; receiver = c.self.inside.receiver } in
    let here : Represents rules v e = subst (λ v. Represents rules v e) (sym c.self.view_is) is in
    record {
      rules_are = rules_stay rules v e c.tick-2.new.self here c.tick-2.ensures.same.rules;
      sender = c.tick.ensures.stands rules e.sender here.sender;
      receiver = follows tick_receiver rules v e c.tick-2.new.self here c.tick-2.ensures.stands;
    }
