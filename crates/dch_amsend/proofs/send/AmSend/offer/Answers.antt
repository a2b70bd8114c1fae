use Rattle.std.proofs.Common.{◌≡◌, ◌-◌, ◌∙◌, subst, sym, ap}
use Rattle.dch_bits.specs.declared.offer.Offer.TheVariants.{Accepted}
use Rattle.dch_am.specs.Sender.{after_offer, offered}
use Rattle.dch_amsend.specs.Outgoing.{IsOutgoing}
use Rattle.dch_amsend.specs.Standing.{Sending, Stands}
use Rattle.dch_amsend.proofs.Sending.{offer_stands, other_offer, stands_by}
use Rattle.dch_am.specs.SenderHistory.{Offer as Offers}
use Rattle.dch_amsend.proofs.Histories.{happened}
use Rattle.dch_amsend.proofs.send.AmSend.offer.Goals as goal

pub returns-in-Accepted-clause-answer : goal.returns-in-Accepted-clause-answer
returns-in-Accepted-clause-answer c = λ rules s is.
    let v : Sending = record { outgoing = c.self.inside.outgoing; sdu_discard = c.self.inside.discard; rules = c.self.inside.rules } in
    let here : Stands rules v s = subst (λ x. Stands rules x s) (sym c.self.view_is) is in
    sym c.in-Accepted.is ∙ (c.offer.ensures.history rules (c.self.inside.outgoing.size - 2) s here.outgoing).0

pub returns-in-Accepted-clause-stands : goal.returns-in-Accepted-clause-stands
returns-in-Accepted-clause-stands c = λ rules s is.
    let v : Sending = record { outgoing = c.self.inside.outgoing; sdu_discard = c.self.inside.discard; rules = c.self.inside.rules } in
    let here : Stands rules v s = subst (λ x. Stands rules x s) (sym c.self.view_is) is in
    let goes = c.offer.ensures.history rules (c.self.inside.outgoing.size - 2) s here.outgoing in
    let yes : offered rules s c.args.unit.now ≡ Accepted = sym goes.0 ∙ c.in-Accepted.is in
    let v_now : Sending = record { outgoing = c.offer.new.self; sdu_discard = c.accept.new.self; rules = c.self.inside.rules } in
    offer_stands rules v_now s c.args.unit.now Accepted yes
    (stands_by rules v s (after_offer Accepted s c.args.unit.now) c.offer.new.self c.accept.new.self here c.offer.ensures.size (subst (λ o. IsOutgoing rules (c.self.inside.outgoing.size - 2) c.offer.new.self (after_offer o s c.args.unit.now)) c.in-Accepted.is goes.1) (c.accept.ensures.history rules s c.args.unit.now here.outgoing.cut here.sdu_discard))

pub returns-in_default-clause-answer : goal.returns-in_default-clause-answer
returns-in_default-clause-answer c = λ rules s is.
    let v : Sending = record { outgoing = c.self.inside.outgoing; sdu_discard = c.self.inside.discard; rules = c.self.inside.rules } in
    let here : Stands rules v s = subst (λ x. Stands rules x s) (sym c.self.view_is) is in
    (c.offer.ensures.history rules (c.self.inside.outgoing.size - 2) s here.outgoing).0

pub returns-in_default-clause-stands : goal.returns-in_default-clause-stands
returns-in_default-clause-stands c = λ rules s is.
    let v : Sending = record { outgoing = c.self.inside.outgoing; sdu_discard = c.self.inside.discard; rules = c.self.inside.rules } in
    let here : Stands rules v s = subst (λ x. Stands rules x s) (sym c.self.view_is) is in
    let goes = c.offer.ensures.history rules (c.self.inside.outgoing.size - 2) s here.outgoing in
    offer_stands rules _ s c.args.unit.now c.offer.result (sym goes.0) (stands_by rules v s (after_offer c.offer.result s c.args.unit.now) c.offer.new.self c.self.inside.discard here c.offer.ensures.size goes.1 (other_offer rules c.self.inside.discard s c.args.unit.now c.offer.result c.in_default.not-Accepted here.sdu_discard))

pub returns-in-Accepted-clause-history : goal.returns-in-Accepted-clause-history
returns-in-Accepted-clause-history c = λ rules events. happened rules events (Offers c.args.unit.now) c.args.self.now _ (c.offer.ensures.size ∙ ap (λ (x : Sending). x.outgoing.size) c.self.view_is) (returns-in-Accepted-clause-stands c rules)

pub returns-in_default-clause-history : goal.returns-in_default-clause-history
returns-in_default-clause-history c = λ rules events. happened rules events (Offers c.args.unit.now) c.args.self.now _ (c.offer.ensures.size ∙ ap (λ (x : Sending). x.outgoing.size) c.self.view_is) (returns-in_default-clause-stands c rules)
