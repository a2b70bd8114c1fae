use Rattle.std.proofs.Common.{◌≡◌, ◌+◌, ◌-◌, ◌∙◌, ap, length, refl, subst, sym, Some}
use Rattle.dch_am.specs.Discards.{discards, discards_at}
use Rattle.dch_am.specs.Sender.{vt_a}
use Rattle.dch_amsend.specs.DiscardStanding.{released}
use Rattle.dch_amsend.specs.Discarding.{discarded_by}
use Rattle.dch_amsend.specs.Standing.{Sending, Stands}
use Rattle.dch_amsend.proofs.Sending.{found_by, stands_by}
use Rattle.dch_amsend.proofs.send.AmSend.discard.Goals as goal

pub returns-in-Some-clause-stands : goal.returns-in-Some-clause-stands
returns-in-Some-clause-stands c = λ rules s is.
    let v : Sending = record { outgoing = c.self.inside.outgoing; sdu_discard = c.self.inside.discard; rules = c.self.inside.rules } in
    let here : Stands rules v s = subst (λ x. Stands rules x s) (sym c.self.view_is) is in
    let i = released s + c.in-Some.found.sdu in
    let place = Some (vt_a s + c.in-Some.found.place, c.in-Some.found.indicator) in
    let chosen : discards rules s (length s.accepted) ≡ discards_at s i place = found_by rules v s c.self.inside.outgoing.line c.overdue.result here refl (c.overdue.ensures.history rules rules.buffer (c.self.inside.outgoing.size - 2) s) ∙ ap (λ o. discarded_by o s) c.in-Some.is in
    subst (Stands rules (record { outgoing = c.discard.new.self; sdu_discard = c.discard-in-Some.new.self; rules = c.self.inside.rules })) (sym chosen)
    (stands_by rules v s (discards_at s i place) c.discard.new.self c.discard-in-Some.new.self here c.discard.ensures.size (c.discard.ensures.history rules (c.self.inside.outgoing.size - 2) s i here.outgoing) (c.discard-in-Some.ensures.history rules s c.in-Some.found.sdu (vt_a s + c.in-Some.found.place, c.in-Some.found.indicator) refl here.sdu_discard))

pub returns-in_default-clause-stands : goal.returns-in_default-clause-stands
returns-in_default-clause-stands c = λ rules s is.
    let v : Sending = record { outgoing = c.self.inside.outgoing; sdu_discard = c.self.inside.discard; rules = c.self.inside.rules } in
    let here : Stands rules v s = subst (λ x. Stands rules x s) (sym c.self.view_is) is in
    let chosen : discards rules s (length s.accepted) ≡ s = found_by rules v s c.self.inside.outgoing.line c.overdue.result here refl (c.overdue.ensures.history rules rules.buffer (c.self.inside.outgoing.size - 2) s) ∙ ap (λ o. discarded_by o s) c.in_default.is in
    subst (Stands rules c.args.self.now) (sym chosen) is
