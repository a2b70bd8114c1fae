use Rattle.std.proofs.Common.{◌-◌, subst, sym, ap, ◌∙◌}
use Rattle.dch_am.specs.Restart.{restarted_sender}
use Rattle.dch_amsend.specs.Standing.{Sending, Stands}
use Rattle.dch_amsend.proofs.Sending.{stands_by}
use Rattle.dch_am.specs.SenderHistory.{Restart}
use Rattle.dch_amsend.proofs.Histories.{happened}
use Rattle.dch_amsend.proofs.send.AmSend.restart.Goals as goal

pub returns-clause-stands : goal.returns-clause-stands
returns-clause-stands c = λ rules s is.
    let v : Sending = record { outgoing = c.self.inside.outgoing; sdu_discard = c.self.inside.discard; rules = c.self.inside.rules } in
    let here : Stands rules v s = subst (λ x. Stands rules x s) (sym c.self.view_is) is in
    let goes = c.restart-kept.ensures.history rules (c.self.inside.outgoing.size - 2) s here.outgoing in
    stands_by rules v s (restarted_sender s) c.restart-kept.new.self c.restart.new.self here c.restart-kept.ensures.size goes.1 (c.restart.ensures.history rules s goes.0 here.outgoing.cut here.sdu_discard)

pub returns-clause-history : goal.returns-clause-history
returns-clause-history c = λ rules events. happened rules events Restart c.args.self.now _ (c.restart-kept.ensures.size ∙ ap (λ (x : Sending). x.outgoing.size) c.self.view_is) (returns-clause-stands c rules)
