use Rattle.std.proofs.Common.{◌≡◌, ◌∙◌, sym, subst}
use Rattle.dch_accept.specs.Plans.{Planned}
use Rattle.dch_nodeb.specs.declared.event.NodeBEvent.{NodeBEvent}
use Rattle.dch_node.specs.Standing.{Tells}
use Rattle.dch_nodeb.specs.Standing.{IsActiveBefore, IsReadyFor, KeepsNext, Represents, Stepped, event_of}
use Rattle.dch_nodeb.proofs.Changing.{can_kept, next_kept}
use Rattle.dch_nodeb.proofs.Going.{untold}
use Rattle.dch_nodeb.proofs.Limited.{untold_limited}
use Rattle.dch_nodeb.proofs.node.NodeB.happen.Goals as goal

pub receive_iub-requires-clause-opened : goal.receive_iub-requires-clause-opened
receive_iub-requires-clause-opened g c =
    c.clear_sent.ensures.opened c.args.accepted.now (subst (λ (e : NodeBEvent). IsReadyFor c.args.accepted.now e c.args.self.now) c.in-Iub.is c.requires.opened)

pub returns-in-Iub-clause-step : goal.returns-in-Iub-clause-step
returns-in-Iub-clause-step g c = λ before state active stands.
    let planned = c.args.accepted.now in
    let same : before ≡ planned = subst (λ (e : NodeBEvent). IsActiveBefore planned e before c.args.self.now) c.in-Iub.is active in
    subst (λ (e : NodeBEvent). Stepped planned state (event_of planned e) c.receive_iub.new.self (Tells g.U.Indications.shows c.args.user.now c.receive_iub.new.user)) (sym c.in-Iub.is)
    (c.receive_iub.ensures.step state (c.clear_sent.ensures.stands planned state (subst (λ (p : Planned). Represents p state c.args.self.now) same stands)))

pub returns-in-Iub-clause-next : goal.returns-in-Iub-clause-next
returns-in-Iub-clause-next g c =
    let planned = c.args.accepted.now in
    subst (λ (e : NodeBEvent). KeepsNext planned e c.args.self.now c.receive_iub.new.self) (sym c.in-Iub.is)
    (λ second has. next_kept planned second c.args.self.now c.receive_iub.new.self (c.receive_iub.ensures.next ∙ c.clear_sent.ensures.next) has)

pub transmit_radio-requires-clause-opened : goal.transmit_radio-requires-clause-opened
transmit_radio-requires-clause-opened g c =
    c.clear_sent.ensures.opened c.args.accepted.now (subst (λ (e : NodeBEvent). IsReadyFor c.args.accepted.now e c.args.self.now) c.in-Down.is c.requires.opened)

pub returns-in-Down-clause-step : goal.returns-in-Down-clause-step
returns-in-Down-clause-step g c = λ before state active stands.
    let planned = c.args.accepted.now in
    let same : before ≡ planned = subst (λ (e : NodeBEvent). IsActiveBefore planned e before c.args.self.now) c.in-Down.is active in
    subst (λ (e : NodeBEvent). Stepped planned state (event_of planned e) c.transmit_radio.new.self (Tells g.U.Indications.shows c.args.user.now c.transmit_radio.new.user)) (sym c.in-Down.is)
    (c.transmit_radio.ensures.step state (c.clear_sent.ensures.stands planned state (subst (λ (p : Planned). Represents p state c.args.self.now) same stands)))

pub returns-in-Down-clause-next : goal.returns-in-Down-clause-next
returns-in-Down-clause-next g c =
    let planned = c.args.accepted.now in
    subst (λ (e : NodeBEvent). KeepsNext planned e c.args.self.now c.transmit_radio.new.self) (sym c.in-Down.is)
    (λ second has. next_kept planned second c.args.self.now c.transmit_radio.new.self (c.transmit_radio.ensures.next ∙ c.clear_sent.ensures.next) has)

pub receive_radio-requires-clause-opened : goal.receive_radio-requires-clause-opened
receive_radio-requires-clause-opened g c =
    c.clear_sent.ensures.opened c.args.accepted.now (subst (λ (e : NodeBEvent). IsReadyFor c.args.accepted.now e c.args.self.now) c.in-Phy.is c.requires.opened)

pub returns-in-Phy-clause-step : goal.returns-in-Phy-clause-step
returns-in-Phy-clause-step g c = λ before state active stands.
    let planned = c.args.accepted.now in
    let same : before ≡ planned = subst (λ (e : NodeBEvent). IsActiveBefore planned e before c.args.self.now) c.in-Phy.is active in
    subst (λ (e : NodeBEvent). Stepped planned state (event_of planned e) c.receive_radio.new.self (Tells g.U.Indications.shows c.args.user.now c.receive_radio.new.user)) (sym c.in-Phy.is)
    (c.receive_radio.ensures.step state (c.clear_sent.ensures.stands planned state (subst (λ (p : Planned). Represents p state c.args.self.now) same stands)))

pub returns-in-Phy-clause-next : goal.returns-in-Phy-clause-next
returns-in-Phy-clause-next g c =
    let planned = c.args.accepted.now in
    subst (λ (e : NodeBEvent). KeepsNext planned e c.args.self.now c.receive_radio.new.self) (sym c.in-Phy.is)
    (λ second has. next_kept planned second c.args.self.now c.receive_radio.new.self (c.receive_radio.ensures.next ∙ c.clear_sent.ensures.next) has)

pub change-requires : goal.change-requires
change-requires g c =
    can_kept c.args.accepted.now c.args.self.now c.clear_sent.new.self c.clear_sent.ensures.opened c.clear_sent.ensures.next
    (subst (λ (e : NodeBEvent). IsReadyFor c.args.accepted.now e c.args.self.now) c.in-Change.is c.requires.opened)

pub returns-in-Change-clause-step : goal.returns-in-Change-clause-step
returns-in-Change-clause-step g c = λ before state active stands.
    let planned = c.args.accepted.now in
    subst (λ (e : NodeBEvent). Stepped planned state (event_of planned e) c.change.new.self (Tells g.U.Indications.shows c.args.user.now c.args.user.now)) (sym c.in-Change.is)
    (untold g.U.Indications.shows planned state _ c.change.new.self c.args.user.now (c.change.ensures.step before state
    (next_kept before planned c.args.self.now c.clear_sent.new.self c.clear_sent.ensures.next (subst (λ (e : NodeBEvent). IsActiveBefore planned e before c.args.self.now) c.in-Change.is active))
    (c.clear_sent.ensures.stands before state stands)))

pub returns-in-Change-clause-next : goal.returns-in-Change-clause-next
returns-in-Change-clause-next g c =
    subst (λ (e : NodeBEvent). KeepsNext c.args.accepted.now e c.args.self.now c.change.new.self) (sym c.in-Change.is) c.change.ensures.next

pub returns-in-Change-clause-limited : goal.returns-in-Change-clause-limited
returns-in-Change-clause-limited g c = untold_limited g.U.Indications.shows c.args.user.now
