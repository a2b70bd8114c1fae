use Rattle.std.proofs.Common.{◌≡◌, ◌∙◌, sym, subst}
use Rattle.dch_accept.specs.Plans.{Planned}
use Rattle.dch_node.specs.Standing.{Tells}
use Rattle.dch_ue.specs.declared.event.UeEvent.{UeEvent}
use Rattle.dch_ue.specs.Standing.{IsActiveBefore, IsReadyFor, KeepsNext, Represents, Stepped, event_of}
use Rattle.dch_ue.proofs.Changing.{can_still, next_kept}
use Rattle.dch_ue.proofs.Moving.{untold}
use Rattle.dch_ue.proofs.Stepping.{untold_limited}
use Rattle.dch_ue.proofs.node.Ue.happen.Goals as goal

pub offer-requires-clause-opened : goal.offer-requires-clause-opened
offer-requires-clause-opened g c = c.clear_shown.ensures.opened c.args.accepted.now (subst (λ (e : UeEvent). IsReadyFor c.args.accepted.now e c.args.self.now) c.in-Unit.is c.requires.opened)

pub returns-in-Unit-clause-step : goal.returns-in-Unit-clause-step
returns-in-Unit-clause-step g c = λ before state active stands.
    let same : before ≡ c.args.accepted.now = subst (λ (e : UeEvent). IsActiveBefore c.args.accepted.now e before c.args.self.now) c.in-Unit.is active in
    subst (λ (e : UeEvent). Stepped c.args.accepted.now state (event_of c.args.accepted.now e) c.offer.new.self (Tells g.U.Indications.shows c.args.user.now c.offer.new.user)) (sym c.in-Unit.is)
    (c.offer.ensures.step state (c.clear_shown.ensures.stands c.args.accepted.now state (subst (λ (p : Planned). Represents p state c.args.self.now) same stands)))

pub returns-in-Unit-clause-next : goal.returns-in-Unit-clause-next
returns-in-Unit-clause-next g c =
    subst (λ (e : UeEvent). KeepsNext c.args.accepted.now e c.args.self.now c.offer.new.self) (sym c.in-Unit.is)
    (λ second has. next_kept c.args.accepted.now second c.args.self.now c.offer.new.self (c.offer.ensures.next ∙ c.clear_shown.ensures.next) has)

pub block-requires-clause-opened : goal.block-requires-clause-opened
block-requires-clause-opened g c = c.clear_shown.ensures.opened c.args.accepted.now (subst (λ (e : UeEvent). IsReadyFor c.args.accepted.now e c.args.self.now) c.in-Block.is c.requires.opened)

pub returns-in-Block-clause-step : goal.returns-in-Block-clause-step
returns-in-Block-clause-step g c = λ before state active stands.
    let same : before ≡ c.args.accepted.now = subst (λ (e : UeEvent). IsActiveBefore c.args.accepted.now e before c.args.self.now) c.in-Block.is active in
    subst (λ (e : UeEvent). Stepped c.args.accepted.now state (event_of c.args.accepted.now e) c.block.new.self (Tells g.U.Indications.shows c.args.user.now c.args.user.now)) (sym c.in-Block.is)
    (untold g.U.Indications.shows c.args.accepted.now state _ c.block.new.self c.args.user.now (c.block.ensures.step state (c.clear_shown.ensures.stands c.args.accepted.now state (subst (λ (p : Planned). Represents p state c.args.self.now) same stands))))

pub returns-in-Block-clause-limited : goal.returns-in-Block-clause-limited
returns-in-Block-clause-limited g c = untold_limited g.U.Indications.shows c.args.accepted.now.config c.args.user.now

pub returns-in-Block-clause-next : goal.returns-in-Block-clause-next
returns-in-Block-clause-next g c =
    subst (λ (e : UeEvent). KeepsNext c.args.accepted.now e c.args.self.now c.block.new.self) (sym c.in-Block.is)
    (λ second has. next_kept c.args.accepted.now second c.args.self.now c.block.new.self (c.block.ensures.next ∙ c.clear_shown.ensures.next) has)

pub receive_radio-requires-clause-opened : goal.receive_radio-requires-clause-opened
receive_radio-requires-clause-opened g c = c.clear_shown.ensures.opened c.args.accepted.now (subst (λ (e : UeEvent). IsReadyFor c.args.accepted.now e c.args.self.now) c.in-Phy.is c.requires.opened)

pub returns-in-Phy-clause-step : goal.returns-in-Phy-clause-step
returns-in-Phy-clause-step g c = λ before state active stands.
    let same : before ≡ c.args.accepted.now = subst (λ (e : UeEvent). IsActiveBefore c.args.accepted.now e before c.args.self.now) c.in-Phy.is active in
    subst (λ (e : UeEvent). Stepped c.args.accepted.now state (event_of c.args.accepted.now e) c.receive_radio.new.self (Tells g.U.Indications.shows c.args.user.now c.args.user.now)) (sym c.in-Phy.is)
    (untold g.U.Indications.shows c.args.accepted.now state _ c.receive_radio.new.self c.args.user.now (c.receive_radio.ensures.step state (c.clear_shown.ensures.stands c.args.accepted.now state (subst (λ (p : Planned). Represents p state c.args.self.now) same stands))))

pub returns-in-Phy-clause-limited : goal.returns-in-Phy-clause-limited
returns-in-Phy-clause-limited g c = untold_limited g.U.Indications.shows c.args.accepted.now.config c.args.user.now

pub returns-in-Phy-clause-next : goal.returns-in-Phy-clause-next
returns-in-Phy-clause-next g c =
    subst (λ (e : UeEvent). KeepsNext c.args.accepted.now e c.args.self.now c.receive_radio.new.self) (sym c.in-Phy.is)
    (λ second has. next_kept c.args.accepted.now second c.args.self.now c.receive_radio.new.self (c.receive_radio.ensures.next ∙ c.clear_shown.ensures.next) has)

pub tick-requires-clause-opened : goal.tick-requires-clause-opened
tick-requires-clause-opened g c = c.clear_shown.ensures.opened c.args.accepted.now (subst (λ (e : UeEvent). IsReadyFor c.args.accepted.now e c.args.self.now) c.in-Tick.is c.requires.opened)

pub returns-in-Tick-clause-step : goal.returns-in-Tick-clause-step
returns-in-Tick-clause-step g c = λ before state active stands.
    let same : before ≡ c.args.accepted.now = subst (λ (e : UeEvent). IsActiveBefore c.args.accepted.now e before c.args.self.now) c.in-Tick.is active in
    subst (λ (e : UeEvent). Stepped c.args.accepted.now state (event_of c.args.accepted.now e) c.tick.new.self (Tells g.U.Indications.shows c.args.user.now c.tick.new.user)) (sym c.in-Tick.is)
    (c.tick.ensures.step state (c.clear_shown.ensures.stands c.args.accepted.now state (subst (λ (p : Planned). Represents p state c.args.self.now) same stands)))

pub returns-in-Tick-clause-next : goal.returns-in-Tick-clause-next
returns-in-Tick-clause-next g c =
    subst (λ (e : UeEvent). KeepsNext c.args.accepted.now e c.args.self.now c.tick.new.self) (sym c.in-Tick.is)
    (λ second has. next_kept c.args.accepted.now second c.args.self.now c.tick.new.self (c.tick.ensures.next ∙ c.clear_shown.ensures.next) has)

pub change-requires : goal.change-requires
change-requires g c =
    can_still c.args.accepted.now c.args.self.now c.clear_shown.new.self c.clear_shown.ensures.opened c.clear_shown.ensures.next c.clear_shown.ensures.cfn
    (subst (λ (e : UeEvent). IsReadyFor c.args.accepted.now e c.args.self.now) c.in-Change.is c.requires.opened)

pub returns-in-Change-clause-step : goal.returns-in-Change-clause-step
returns-in-Change-clause-step g c = λ before state active stands.
    let has = subst (λ (e : UeEvent). IsActiveBefore c.args.accepted.now e before c.args.self.now) c.in-Change.is active in
    subst (λ (e : UeEvent). Stepped c.args.accepted.now state (event_of c.args.accepted.now e) c.change.new.self (Tells g.U.Indications.shows c.args.user.now c.args.user.now)) (sym c.in-Change.is)
    (untold g.U.Indications.shows c.args.accepted.now state _ c.change.new.self c.args.user.now
    (c.change.ensures.step before state (next_kept before c.args.accepted.now c.args.self.now c.clear_shown.new.self c.clear_shown.ensures.next has) (c.clear_shown.ensures.stands before state stands)))

pub returns-in-Change-clause-limited : goal.returns-in-Change-clause-limited
returns-in-Change-clause-limited g c = untold_limited g.U.Indications.shows c.args.accepted.now.config c.args.user.now

pub returns-in-Change-clause-next : goal.returns-in-Change-clause-next
returns-in-Change-clause-next g c = subst (λ (e : UeEvent). KeepsNext c.args.accepted.now e c.args.self.now c.change.new.self) (sym c.in-Change.is) c.change.ensures.next
