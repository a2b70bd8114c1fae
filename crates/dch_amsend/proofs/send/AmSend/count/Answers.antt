use Rattle.std.proofs.Common.{◌≡◌, ◌-◌, ◌∙◌, ap, arith, length, subst, sym}
use Rattle.dch_am.specs.Rules.{Rules}
use Rattle.dch_retx.specs.Standing.{timed}
use Rattle.dch_amsend.specs.SduDiscard.{SduDiscard}
use Rattle.dch_amsend.specs.TxBuffer.{TxBuffer}
use Rattle.dch_amsend.proofs.Aging.{length-aged}
use Rattle.dch_amsend.specs.Standing.{Sending, Stands}
use Rattle.dch_amsend.proofs.Sending.{holds_still, stands_by, ticked}
use Rattle.dch_amsend.proofs.send.AmSend.count.Goals as goal

pub invariant_of-self : goal.invariant_of-self
invariant_of-self c = (
  ap (λ (h : SduDiscard). length h.ages) c.tick-then-self-gt0.ensures.after ∙ (length-aged c.self.inside.discard.ages ∙ (c.self.invariant.0 ∙ ap (λ (w : TxBuffer). length w.sdus) (sym c.tick.ensures.same))),
  ap (λ (h : SduDiscard). h.most) c.tick-then-self-gt0.ensures.after ∙ (c.self.invariant.1 ∙ ap (λ (w : TxBuffer). w.blocks) (sym c.tick.ensures.same)),
)

pub returns-then-self-gt0-clause-stands : goal.returns-then-self-gt0-clause-stands
returns-then-self-gt0-clause-stands c = λ rules s is.
    let v : Sending = record { outgoing = c.self.inside.outgoing; sdu_discard = c.self.inside.discard; rules = c.self.inside.rules } in
    let here : Stands rules v s = subst (λ x. Stands rules x s) (sym c.self.view_is) is in
    stands_by rules v s (timed s) c.tick.new.self c.tick-then-self-gt0.new.self here c.tick.ensures.size (c.tick.ensures.history rules (c.self.inside.outgoing.size - 2) s here.outgoing) (c.tick-then-self-gt0.ensures.history rules s (timed s) (ticked s) here.sdu_discard)

pub returns-else-self-gt0-clause-stands : goal.returns-else-self-gt0-clause-stands
returns-else-self-gt0-clause-stands c = λ rules s is.
    let v : Sending = record { outgoing = c.self.inside.outgoing; sdu_discard = c.self.inside.discard; rules = c.self.inside.rules } in
    let here : Stands rules v s = subst (λ x. Stands rules x s) (sym c.self.view_is) is in
    let off : rules.discard_age ≡ 0 = omega (arith, ap (λ (r : Rules). r.discard_age) here.rules_are, c.if-self-gt0.false) in
    stands_by rules v s (timed s) c.tick.new.self c.self.inside.discard here c.tick.ensures.size (c.tick.ensures.history rules (c.self.inside.outgoing.size - 2) s here.outgoing) (holds_still rules c.self.inside.discard s off here.sdu_discard)
