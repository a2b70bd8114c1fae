use Rattle.std.proofs.Common.{◌≡◌, ◌∙◌, ap, ap₂, subst, sym}
use Rattle.dch_am.specs.Receiver.{after_pdu, taken}
use Rattle.dch_am.specs.Contents.{body_in}
use Rattle.dch_amrecv.specs.Holding.{after_answer, answer}
use Rattle.dch_am.specs.Rules.{rules_of}
use Rattle.dch_amrecv.specs.Standing.{IsSame, Stands}
use Rattle.dch_amrecv.proofs.Events.{answer_is, pdu_stands, same_answer}
use Rattle.dch_am.specs.ReceiverHistory.{Arrive}
use Rattle.dch_amrecv.proofs.Histories.{happened}
use Rattle.dch_amrecv.proofs.recv.AmRecv.pdu.Goals as goal

pub returns-clause-answer : goal.returns-clause-answer
returns-clause-answer c buffer given r s = c.pdu.ensures.value ∙ (ap (answer c.args.sn) c.self.view_is ∙ answer_is c.args.self.now buffer given r c.args.sn s)

pub returns-clause-stands : goal.returns-clause-stands
returns-clause-stands c buffer given r s =
    let t : c.pdu.result ≡ taken (rules_of buffer c.args.self.now.rules) r c.args.sn = c.pdu.ensures.value ∙ (ap (answer c.args.sn) c.self.view_is ∙ answer_is c.args.self.now buffer given r c.args.sn s) in
    let e : c.pdu.new.self ≡ after_answer (taken (rules_of buffer c.args.self.now.rules) r c.args.sn) c.args.sn c.args.poll (body_in c.args.body.now) c.args.self.now = c.pdu.ensures.after ∙ ap₂ (λ x h. after_answer x c.args.sn c.args.poll (body_in c.args.body.now) h) t c.self.view_is in
    subst (λ h. Stands h given (after_pdu (rules_of buffer c.args.self.now.rules) (taken (rules_of buffer c.args.self.now.rules) r c.args.sn) r c.args.sn c.args.poll (body_in c.args.body.now))) (sym e)
    (pdu_stands c.args.self.now buffer given r c.args.sn c.args.poll (body_in c.args.body.now) (taken (rules_of buffer c.args.self.now.rules) r c.args.sn) s)

pub returns-clause-same : goal.returns-clause-same
returns-clause-same c = subst (IsSame c.args.self.now) (sym (c.pdu.ensures.after ∙ ap (λ h. after_answer c.pdu.result c.args.sn c.args.poll (body_in c.args.body.now) h) c.self.view_is)) (same_answer c.args.self.now c.args.sn c.args.poll (body_in c.args.body.now) c.pdu.result)

pub returns-clause-history : goal.returns-clause-history
returns-clause-history c = λ rules events. happened rules events (Arrive c.args.sn c.args.poll (body_in c.args.body.now)) c.args.self.now _ (returns-clause-same c).rules (λ side. returns-clause-stands c rules.buffer side.handed side.receiver)
