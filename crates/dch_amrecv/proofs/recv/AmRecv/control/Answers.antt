use Rattle.std.proofs.Common.{◌≡◌, ◌<◌, ◌∙◌, ℕ, IfSome, Some, ap, refl, subst, sym}
use Rattle.dch_am.specs.Moves.{after_move_in}
use Rattle.dch_amrecv.specs.Holding.{after_move, move_answer}
use Rattle.dch_am.specs.Rules.{rules_of}
use Rattle.dch_amrecv.specs.Standing.{IsSame, Stands}
use Rattle.dch_amrecv.proofs.Events.{control_stands, same_move}
use Rattle.dch_am.specs.ReceiverHistory.{Obey}
use Rattle.dch_amrecv.proofs.Histories.{happened}
use Rattle.dch_amrecv.proofs.recv.AmRecv.control.Goals as goal

pub returns-in-Some-clause-stands : goal.returns-in-Some-clause-stands
returns-in-Some-clause-stands c buffer given r s =
    let e : c.obey.new.self ≡ after_move (move_answer c.place.inside.sn c.args.self.now) c.place.inside.sn c.place.inside.n c.args.self.now =
    c.obey.ensures.after ∙ (ap (λ x. after_move x c.place.inside.sn c.place.inside.n c.self.inside.holder) c.obey.ensures.value ∙ ap (λ h. after_move (move_answer c.place.inside.sn h) c.place.inside.sn c.place.inside.n h) c.self.view_is) in
    subst (λ o. Stands c.obey.new.self given (after_move_in (rules_of buffer c.args.self.now.rules) r o)) (ap Some c.place.view_is ∙ c.in-Some.ensures.value)
    (subst (λ h. Stands h given (after_move_in (rules_of buffer c.args.self.now.rules) r (Some (c.place.inside.sn, c.place.inside.n)))) (sym e)
    (control_stands c.args.self.now buffer given r (Some (c.place.inside.sn, c.place.inside.n)) (subst (λ (p : ℕ × ℕ). IfSome (Some p) (λ q. (q.0 < 4096) × (q.1 < 16))) (sym c.place.view_is) c.in-Some.ensures.range) s))

pub returns-in-Some-clause-same : goal.returns-in-Some-clause-same
returns-in-Some-clause-same c = subst (IsSame c.args.self.now) (sym (c.obey.ensures.after ∙ ap (λ h. after_move c.obey.result c.place.inside.sn c.place.inside.n h) c.self.view_is)) (same_move c.args.self.now c.place.inside.sn c.place.inside.n c.obey.result)

pub returns-in-Some-clause-history : goal.returns-in-Some-clause-history
returns-in-Some-clause-history c = λ rules events. happened rules events (Obey c.args.status.now) c.args.self.now _ (returns-in-Some-clause-same c).rules (λ side. returns-in-Some-clause-stands c rules.buffer side.handed side.receiver)

pub returns-in-None-clause-history : goal.returns-in-None-clause-history
returns-in-None-clause-history c = λ rules events. happened rules events (Obey c.args.status.now) c.args.self.now c.args.self.now refl (λ side is. subst (λ o. Stands c.args.self.now side.handed (after_move_in (rules_of rules.buffer c.args.self.now.rules) side.receiver o)) c.in-None.ensures.value is)
