use Rattle.std.proofs.Common.{◌∙◌, ap, refl, subst, sym}
use Rattle.dch_am.specs.Receiver.{opened_receiver}
use Rattle.dch_am.specs.Rules.{rules_of}
use Rattle.dch_amrecv.specs.Holding.{Holding, opened}
use Rattle.dch_amrecv.specs.Standing.{IsSame, Stands}
use Rattle.dch_amrecv.proofs.Events.{opened_stands}
use Rattle.dch_am.specs.ReceiverHistory.{Restart}
use Rattle.dch_amrecv.proofs.Histories.{happened}
use Rattle.dch_amrecv.proofs.recv.AmRecv.restart.Goals as goal

pub returns-clause-value : goal.returns-clause-value
returns-clause-value c = c.restart.ensures ∙ ap (λ (h : Holding). opened h.rules h.pdu h.reply) c.self.view_is

pub returns-clause-stands : goal.returns-clause-stands
returns-clause-stands c buffer =
    subst (λ h. Stands h 0 (opened_receiver (rules_of buffer c.args.self.now.rules))) (sym (returns-clause-value c)) (opened_stands c.args.self.now.rules c.args.self.now.pdu c.args.self.now.reply buffer)

pub returns-clause-same : goal.returns-clause-same
returns-clause-same c = subst (IsSame c.args.self.now) (sym (returns-clause-value c)) (record { rules = refl; pdu = refl; reply = refl })

pub returns-clause-history : goal.returns-clause-history
returns-clause-history c = λ rules events. happened rules events Restart c.args.self.now _ (returns-clause-same c).rules (λ side is. returns-clause-stands c rules.buffer)
