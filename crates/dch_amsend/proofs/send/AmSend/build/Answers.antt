use Rattle.std.proofs.Common.{◌-◌, ap, subst, sym, ◌≡◌, ◌∙◌}
use Rattle.dch_am.specs.Building.{after_build}
use Rattle.dch_amsend.specs.Standing.{Sending, Stands}
use Rattle.dch_amsend.proofs.Sending.{build_stands, stands_by}
use Rattle.dch_am.specs.Texts.{next_pdu}
use Rattle.dch_am.specs.SenderHistory.{Build}
use Rattle.dch_amsend.proofs.Histories.{happened, build_listed}
use Rattle.dch_amsend.proofs.send.AmSend.build.Goals as goal

pub returns-clause-stands : goal.returns-clause-stands
returns-clause-stands c = λ rules s is.
    let v : Sending = record { outgoing = c.self.inside.outgoing; sdu_discard = c.self.inside.discard; rules = c.self.inside.rules } in
    let here : Stands rules v s = subst (λ x. Stands rules x s) (sym c.self.view_is) is in
    let all = c.build.ensures.history rules (c.self.inside.outgoing.size - 2) s here.outgoing in
    let view = ap (λ (x : Sending). x.outgoing.size) c.self.view_is in
    subst (λ n. Stands rules (record { outgoing = c.build.new.self; sdu_discard = c.self.inside.discard; rules = c.self.inside.rules }) (after_build rules (n - 2) s)) view
    (stands_by rules v s (after_build rules (c.self.inside.outgoing.size - 2) s) c.build.new.self c.self.inside.discard here c.build.ensures.size all.1 (build_stands rules (c.self.inside.outgoing.size - 2) c.self.inside.outgoing c.self.inside.discard s here.outgoing here.sdu_discard))

pub returns-clause-history : goal.returns-clause-history
returns-clause-history c = λ rules events. happened rules events Build c.args.self.now _ (c.build.ensures.size ∙ ap (λ (x : Sending). x.outgoing.size) c.self.view_is) (returns-clause-stands c rules)

pub returns-clause-listed : goal.returns-clause-listed
returns-clause-listed c = λ rules s is listed.
    let v : Sending = record { outgoing = c.self.inside.outgoing; sdu_discard = c.self.inside.discard; rules = c.self.inside.rules } in
    let here : Stands rules v s = subst (λ x. Stands rules x s) (sym c.self.view_is) is in
    let text = (c.build.ensures.history rules (c.self.inside.outgoing.size - 2) s here.outgoing).0 in
    build_listed rules c.args.self.now s c.build.new.out c.requires.due (subst (λ (x : Sending). c.build.new.out ≡ next_pdu rules (x.outgoing.size - 2) s) c.self.view_is text) is listed
