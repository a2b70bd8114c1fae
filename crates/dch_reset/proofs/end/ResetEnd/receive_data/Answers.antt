use Rattle.std.proofs.Common.{◌≡◌, ◌∙◌, false, is_some, ap, subst, sym}
use Rattle.dch_am.specs.Entities.{pdu_of}
use Rattle.dch_pair.specs.Answers.{received}
use Rattle.dch_reset.specs.Answers.{entity_answer}
use Rattle.dch_reset.specs.Standing.{Represents, Running, pending_of, size_of}
use Rattle.dch_reset.specs.State.{taken_by}
use Rattle.dch_reset.proofs.Ends.{ignores, pending_some, takes, unless_none}
use Rattle.dch_reset.proofs.end.ResetEnd.receive_data.Goals as goal

pub returns-then-is_some-clause-stands : goal.returns-then-is_some-clause-stands
returns-then-is_some-clause-stands c rules e is =
    let i = c.self.inside in
    let v : Running = record { entity = i.entity; pending = pending_of i.pending; next_rsn = i.next_rsn; heard = i.heard; owes = i.owes; restarts = i.restarts; hfni = i.hfni } in
    let here : Represents rules v e = subst (λ x. Represents rules x e) (sym c.self.view_is) is in
    ignores rules c.args.self.now (size_of c.args.self.now) e e.pending (pdu_of c.args.view.now) (ap is_some (sym here.pending) ∙ pending_some i.pending ∙ sym c.if-is_some.ensures) is

pub returns-clause-answer : goal.returns-clause-answer
returns-clause-answer c rules e is =
    let i = c.self.inside in
    let v : Running = record { entity = i.entity; pending = pending_of i.pending; next_rsn = i.next_rsn; heard = i.heard; owes = i.owes; restarts = i.restarts; hfni = i.hfni } in
    let here : Represents rules v e = subst (λ x. Represents rules x e) (sym c.self.view_is) is in
    c.entity_answer.ensures ∙ ap entity_answer (c.receive.ensures.answer rules e.entity here.entity)
    ∙ unless_none e.pending (entity_answer (received rules e.entity (pdu_of c.args.view.now))) (ap is_some (sym here.pending) ∙ pending_some i.pending ∙ sym c.if-is_some.ensures)

pub returns-clause-stands : goal.returns-clause-stands
returns-clause-stands c rules e is =
    let i = c.self.inside in
    let v : Running = record { entity = i.entity; pending = pending_of i.pending; next_rsn = i.next_rsn; heard = i.heard; owes = i.owes; restarts = i.restarts; hfni = i.hfni } in
    let here : Represents rules v e = subst (λ x. Represents rules x e) (sym c.self.view_is) is in
    let none : is_some e.pending ≡ false = ap is_some (sym here.pending) ∙ pending_some i.pending ∙ sym c.if-is_some.ensures in
    subst (λ (x : Running). Represents rules (record v { entity = c.receive.new.self }) (taken_by rules (size_of x) e e.pending (pdu_of c.args.view.now))) c.self.view_is
    (takes rules v c.receive.new.self (size_of v) e e.pending (pdu_of c.args.view.now) none here (c.receive.ensures.stands rules e.entity here.entity))
