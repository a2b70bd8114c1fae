use Rattle.std.proofs.Common.{◌≡◌, ◌-◌, ap₂, length, subst, sym, ap, ◌∙◌}
use Rattle.dch_am.specs.Acknowledging.{after_fields}
use Rattle.dch_amsend.specs.DiscardStanding.{AreReleased}
use Rattle.dch_amsend.specs.Standing.{Sending, Stands}
use Rattle.dch_amsend.proofs.Sending.{released_more, stands_by}
use Rattle.dch_am.specs.SenderHistory.{Hear}
use Rattle.dch_amsend.proofs.Histories.{happened}
use Rattle.dch_amsend.proofs.send.AmSend.status.Goals as goal

pub returns-clause-answer : goal.returns-clause-answer
returns-clause-answer c = λ rules s is.
    let v : Sending = record { outgoing = c.self.inside.outgoing; sdu_discard = c.self.inside.discard; rules = c.self.inside.rules } in
    let here : Stands rules v s = subst (λ x. Stands rules x s) (sym c.self.view_is) is in
    (c.status-taken.ensures.history rules (c.self.inside.outgoing.size - 2) s here.outgoing).0

pub returns-clause-stands : goal.returns-clause-stands
returns-clause-stands c = λ rules s is.
    let v : Sending = record { outgoing = c.self.inside.outgoing; sdu_discard = c.self.inside.discard; rules = c.self.inside.rules } in
    let here : Stands rules v s = subst (λ x. Stands rules x s) (sym c.self.view_is) is in
    let goes = (c.status-taken.ensures.history rules (c.self.inside.outgoing.size - 2) s here.outgoing).1 in
    let freed : c.sdus-before.result - c.sdus.result ≡ length c.self.inside.outgoing.tx_buffer.sdus - length c.status-taken.new.self.tx_buffer.sdus = ap₂ (λ a b. a - b) c.sdus-before.ensures c.sdus.ensures in
    let more : AreReleased (c.sdus-before.result - c.sdus.result) s (after_fields rules s c.args.status.now) = subst (λ n. AreReleased n s (after_fields rules s c.args.status.now)) (sym freed) (released_more rules (c.self.inside.outgoing.size - 2) c.self.inside.outgoing c.status-taken.new.self s c.args.status.now here.outgoing goes c.status-taken.ensures.fewer) in
    stands_by rules v s (after_fields rules s c.args.status.now) c.status-taken.new.self c.release.new.self here c.status-taken.ensures.size goes (c.release.ensures.history rules s (after_fields rules s c.args.status.now) more here.sdu_discard)

pub returns-clause-history : goal.returns-clause-history
returns-clause-history c = λ rules events. happened rules events (Hear c.args.status.now) c.args.self.now _ (c.status-taken.ensures.size ∙ ap (λ (x : Sending). x.outgoing.size) c.self.view_is) (returns-clause-stands c rules)
