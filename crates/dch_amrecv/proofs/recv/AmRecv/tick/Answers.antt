use Rattle.std.proofs.Common.{◌∙◌, ap, refl, subst, sym}
use Rattle.dch_amrecv.specs.Holding.{after_tick}
use Rattle.dch_amrecv.specs.Standing.{IsSame}
use Rattle.dch_am.specs.ReceiverHistory.{Tick, receiver_step}
use Rattle.dch_am.specs.Rules.{rules_of}
use Rattle.dch_amrecv.proofs.Events.{tick_stands}
use Rattle.dch_amrecv.proofs.Histories.{StandsFor, happened}
use Rattle.dch_amrecv.proofs.recv.AmRecv.tick.Goals as goal

pub returns-clause-same : goal.returns-clause-same
returns-clause-same c = subst (IsSame c.args.self.now) (sym (c.tick.ensures ∙ ap after_tick c.self.view_is)) (record { rules = refl; pdu = refl; reply = refl })

pub returns-clause-kept : goal.returns-clause-kept
returns-clause-kept c = ap (λ h. h.kept) (c.tick.ensures ∙ ap after_tick c.self.view_is)

pub returns-clause-history : goal.returns-clause-history
returns-clause-history c = λ rules events. happened rules events Tick c.args.self.now _ (returns-clause-same c).rules (λ side is. subst (λ h. StandsFor h (receiver_step (rules_of rules.buffer c.args.self.now.rules) side Tick)) (sym (c.tick.ensures ∙ ap after_tick c.self.view_is)) (tick_stands c.args.self.now rules.buffer side.handed side.receiver is))
