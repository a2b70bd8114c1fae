use Rattle.std.proofs.Common.{◌≡◌, ap₂, subst, sym}
use Rattle.dch_am.specs.Contents.{body_in}
use Rattle.dch_am.specs.Entities.{Come, pdu_of, step}
use Rattle.dch_am.specs.Moves.{after_control}
use Rattle.dch_am.specs.Receiver.{Receiver, after_pdu, taken}
use Rattle.dch_am.specs.Rules.{Rules}
use Rattle.dch_pair.specs.declared.answers.Received.TheVariants.{Data}
use Rattle.dch_pair.specs.Answers.{received}
use Rattle.dch_pair.specs.EntityStanding.{Represents, Running}
use Rattle.dch_pair.proofs.Events.{answers, follows, rules_stay}
use Rattle.dch_pair.proofs.entity.AmEntity.receive.Goals as goal

pub returns-in-Payload-clause-answer : goal.returns-in-Payload-clause-answer
returns-in-Payload-clause-answer c rules e is =
    let v : Running = record { sender = c.self.inside.sender; receiver = c.self.inside.receiver } in
    let here : Represents rules v e = subst (λ v. Represents rules v e) (sym c.self.view_is) is in
    subst (λ x. Data c.pdu-taken.result c.hear-piggyback.result ≡ received rules e (pdu_of x)) (sym c.in-Payload.is)
    (ap₂ Data
    (answers (λ (x : Rules). taken x e.receiver c.in-Payload.sn) rules v e c.pdu-taken.result here (c.pdu-taken.ensures.answer rules.buffer e.handed e.receiver here.receiver))
    (c.hear-piggyback.ensures.answer rules e.sender here.sender))

pub returns-in-Payload-clause-stands : goal.returns-in-Payload-clause-stands
returns-in-Payload-clause-stands c rules e is =
    let v : Running = record { sender = c.self.inside.sender; receiver = c.self.inside.receiver } in
    let here : Represents rules v e = subst (λ v. Represents rules v e) (sym c.self.view_is) is in
    let now : Running = record { sender = c.hear-piggyback.new.sender; receiver = c.pdu-taken.new.self } in
    subst (λ x. Represents rules now (step rules 0 e (Come (pdu_of x)))) (sym c.in-Payload.is) (record {
      rules_are = rules_stay rules v e c.pdu-taken.new.self here c.pdu-taken.ensures.same.rules;
      sender = c.hear-piggyback.ensures.stands rules e.sender here.sender;
      receiver = follows (λ (x : Rules) (q : Receiver). after_pdu x (taken x q c.in-Payload.sn) q c.in-Payload.sn c.in-Payload.poll (body_in c.in-Payload.body)) rules v e c.pdu-taken.new.self here c.pdu-taken.ensures.stands;
    })

pub returns-in-Status-clause-stands : goal.returns-in-Status-clause-stands
returns-in-Status-clause-stands c rules e is =
    let v : Running = record { sender = c.self.inside.sender; receiver = c.self.inside.receiver } in
    let here : Represents rules v e = subst (λ v. Represents rules v e) (sym c.self.view_is) is in
    let now : Running = record { sender = c.status-heard.new.self; receiver = c.control-mrw.new.self } in
    subst (λ x. Represents rules now (step rules 0 e (Come (pdu_of x)))) (sym c.in-Status.is) (record {
      rules_are = rules_stay rules v e c.control-mrw.new.self here c.control-mrw.ensures.same.rules;
      sender = c.status-heard.ensures.stands rules e.sender here.sender;
      receiver = follows (λ (x : Rules) (q : Receiver). after_control x q c.in-Status.status) rules v e c.control-mrw.new.self here c.control-mrw.ensures.stands;
    })
