use Rattle.std.proofs.Common.{◌≡◌, ◌∙◌, ap, cond, length, subst, sym}
use Rattle.dch_am.specs.Discards.{discards, tick_sender}
use Rattle.dch_retx.specs.Standing.{timed}
use Rattle.dch_amsend.specs.Standing.{Stands}
use Rattle.dch_amsend.proofs.Sending.{tick_by}
use Rattle.dch_am.specs.SenderHistory.{Tick}
use Rattle.dch_amsend.proofs.Histories.{happened}
use Rattle.dch_amsend.proofs.send.AmSend.tick.Goals as goal

pub returns-then-may_discard-clause-stands : goal.returns-then-may_discard-clause-stands
returns-then-may_discard-clause-stands c = λ rules s is.
    let ran : Stands rules c.count.new.self (timed s) = c.count.ensures.stands rules s is in
    let after : tick_sender rules s ≡ discards rules (timed s) (length s.accepted) = tick_by rules c.count.new.self s c.may_discard.result ran c.may_discard.ensures ∙ ap (λ b. cond b (discards rules (timed s) (length s.accepted)) (timed s)) c.if-may_discard.true in
    subst (Stands rules c.discard.new.self) (sym after) (c.discard.ensures.stands rules (timed s) ran)

pub returns-else-may_discard-clause-stands : goal.returns-else-may_discard-clause-stands
returns-else-may_discard-clause-stands c = λ rules s is.
    let ran : Stands rules c.count.new.self (timed s) = c.count.ensures.stands rules s is in
    let after : tick_sender rules s ≡ timed s = tick_by rules c.count.new.self s c.may_discard.result ran c.may_discard.ensures ∙ ap (λ b. cond b (discards rules (timed s) (length s.accepted)) (timed s)) c.if-may_discard.false in
    subst (Stands rules c.count.new.self) (sym after) ran

pub returns-then-may_discard-clause-history : goal.returns-then-may_discard-clause-history
returns-then-may_discard-clause-history c = λ rules events. happened rules events Tick c.args.self.now _ (c.discard.ensures.same.size ∙ c.count.ensures.same.size) (returns-then-may_discard-clause-stands c rules)

pub returns-else-may_discard-clause-history : goal.returns-else-may_discard-clause-history
returns-else-may_discard-clause-history c = λ rules events. happened rules events Tick c.args.self.now _ (c.count.ensures.same.size) (returns-else-may_discard-clause-stands c rules)
