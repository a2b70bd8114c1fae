use Rattle.std.proofs.Common.{arith, sym, subst}
use Rattle.dch_ue.specs.Opened.{IsNodeOf}
use Rattle.dch_ue.specs.Standing.{IsAt, NothingShown}
use Rattle.dch_ue.specs.Values.{Node}
use Rattle.dch_ue.specs.contracts.node.Ue.{the_view}
use Rattle.dch_ue.proofs.Moving.{can_offer, offered}
use Rattle.dch_ue.proofs.Staying.{offered_layer, offered_runs, still_layer}
use Rattle.dch_ue.proofs.Stepping.{offered_limited}
use Rattle.dch_ue.proofs.node.Ue.offer.Goals as goal

pub offer-answer-requires : goal.offer-answer-requires
offer-answer-requires g c =
    let opened : IsNodeOf c.args.accepted.now (the_view c.self.inside) = subst (λ (n : Node). IsNodeOf c.args.accepted.now n) (sym c.self.view_is) c.requires.opened in
    can_offer c.args.accepted.now (the_view c.self.inside) c.args.bearer opened c.requires.bearer

pub returns-clause-step : goal.returns-clause-step
returns-clause-step g c = λ state stands.
    let planned = c.args.accepted.now in
    let node : Node = the_view c.self.inside in
    let opened : IsNodeOf planned node = subst (λ (n : Node). IsNodeOf planned n) (sym c.self.view_is) c.requires.opened in
    let at : IsAt planned state node = subst (λ (n : Node). IsAt planned state n) (sym c.self.view_is) stands in
    offered g.U.Indications.shows planned state node c.offer-answer.new.self c.args.bearer c.args.octets.now c.args.bits.now c.offer-answer.result c.args.user.now c.tell_answer.new.user
    (subst (λ (n : Node). NothingShown n) (sym c.self.view_is) c.requires.quiet) at opened.sends
    (c.offer-answer.ensures.answer planned.config state.layer at.layer c.requires.bearer.there) (c.offer-answer.ensures.stands planned.config state.layer at.layer) c.tell_answer.ensures.shown

pub returns-clause-opened : goal.returns-clause-opened
returns-clause-opened g c =
    let planned = c.args.accepted.now in
    let node : Node = the_view c.self.inside in
    let opened : IsNodeOf planned node = subst (λ (n : Node). IsNodeOf planned n) (sym c.self.view_is) c.requires.opened in
    still_layer planned node c.offer-answer.new.self opened c.offer-answer.ensures.ends (offered_layer planned node c.offer-answer.new.self c.args.bearer c.args.octets.now c.args.bits.now opened c.offer-answer.ensures.stands)
    (offered_runs planned node c.offer-answer.new.self c.args.bearer c.args.octets.now c.args.bits.now opened c.offer-answer.ensures.stands)

pub returns-clause-limited : goal.returns-clause-limited
returns-clause-limited g c =
    offered_limited g.U.Indications.shows c.args.accepted.now.config c.args.bearer c.offer-answer.result c.args.user.now c.tell_answer.new.user (omega (arith, c.ranges.bearer.fits)) c.tell_answer.ensures.shown
