use Rattle.std.proofs.Common.{◌∙◌, ap, subst, sym}
use Rattle.dch_am.specs.Receiver.{opened_receiver}
use Rattle.dch_amrecv.specs.Holding.{Holding}
use Rattle.dch_amrecv.specs.Standing.{Stands}
use Rattle.dch_amrecv.proofs.Handing.{none_waits}
use Rattle.dch_pair.specs.EntityStanding.{Represents, Running, size_in, size_of}
use Rattle.dch_pair.proofs.Events.{rules_stay}
use Rattle.dch_pair.proofs.entity.AmEntity.restart.Goals as goal

pub returns-clause-stands : goal.returns-clause-stands
returns-clause-stands c rules e is =
    let v : Running = record { sender = c.self.inside.sender; receiver = c.self.inside.receiver } in
    let here : Represents rules v e = subst (λ v. Represents rules v e) (sym c.self.view_is) is in
    record {
      rules_are = rules_stay rules v e c.restart-2.new.self here c.restart-2.ensures.same.rules;
      sender = c.restart.ensures.stands rules e.sender here.sender;
      receiver = subst (λ r. Stands c.restart-2.new.self 0 (opened_receiver r)) (sym here.rules_are) (c.restart-2.ensures.stands rules.buffer);
    }

pub returns-clause-same : goal.returns-clause-same
returns-clause-same c = record {
  sizes = record { out = c.restart.ensures.same.size ∙ ap size_of c.self.view_is; in_ = c.restart-2.ensures.same.pdu ∙ ap size_in c.self.view_is };
  waiting = ap (λ (h : Holding). h.kept.units.waiting) c.restart-2.ensures.value ∙ sym (none_waits c.args.self.now.receiver c.requires.settled);
}
