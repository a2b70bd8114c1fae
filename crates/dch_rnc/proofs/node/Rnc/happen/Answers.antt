use Rattle.std.proofs.Common.{◌≡◌, ◌∙◌, sym, subst}
use Rattle.dch_accept.specs.Plans.{Planned}
use Rattle.dch_rnc.specs.declared.event.RncEvent.{RncEvent}
use Rattle.dch_node.specs.Standing.{Tells}
use Rattle.dch_rnc.specs.Standing.{IsActiveBefore, IsReadyFor, KeepsNext, Represents, Stepped, event_of}
use Rattle.dch_rnc.proofs.Changing.{can_kept, next_kept}
use Rattle.dch_rnc.proofs.Moving.{untold}
use Rattle.dch_rnc.proofs.node.Rnc.happen.Goals as goal

pub offer-requires-clause-opened : goal.offer-requires-clause-opened
offer-requires-clause-opened g c =
    c.clear_shown.ensures.opened c.args.accepted.now (subst (λ (e : RncEvent). IsReadyFor c.args.accepted.now e c.args.self.now) c.in-Unit.is c.requires.opened)

pub returns-in-Unit-clause-step : goal.returns-in-Unit-clause-step
returns-in-Unit-clause-step g c = λ before state active stands.
    let planned = c.args.accepted.now in
    let same : before ≡ planned = subst (λ (e : RncEvent). IsActiveBefore planned e before c.args.self.now) c.in-Unit.is active in
    subst (λ (e : RncEvent). Stepped planned state (event_of planned e) c.offer.new.self (Tells g.U.Indications.shows c.args.user.now c.offer.new.user)) (sym c.in-Unit.is)
    (c.offer.ensures.step state (c.clear_shown.ensures.stands planned state (subst (λ (p : Planned). Represents p state c.args.self.now) same stands)))

pub returns-in-Unit-clause-next : goal.returns-in-Unit-clause-next
returns-in-Unit-clause-next g c =
    let planned = c.args.accepted.now in
    subst (λ (e : RncEvent). KeepsNext planned e c.args.self.now c.offer.new.self) (sym c.in-Unit.is)
    (λ second has. next_kept planned second c.args.self.now c.offer.new.self (c.offer.ensures.next ∙ c.clear_shown.ensures.next) has)

pub block-requires-clause-opened : goal.block-requires-clause-opened
block-requires-clause-opened g c =
    c.clear_shown.ensures.opened c.args.accepted.now (subst (λ (e : RncEvent). IsReadyFor c.args.accepted.now e c.args.self.now) c.in-Block.is c.requires.opened)

pub returns-in-Block-clause-step : goal.returns-in-Block-clause-step
returns-in-Block-clause-step g c = λ before state active stands.
    let planned = c.args.accepted.now in
    let same : before ≡ planned = subst (λ (e : RncEvent). IsActiveBefore planned e before c.args.self.now) c.in-Block.is active in
    subst (λ (e : RncEvent). Stepped planned state (event_of planned e) c.block.new.self (Tells g.U.Indications.shows c.args.user.now c.args.user.now)) (sym c.in-Block.is)
    (untold g.U.Indications.shows planned state _ c.block.new.self c.args.user.now (c.block.ensures.step state (c.clear_shown.ensures.stands planned state (subst (λ (p : Planned). Represents p state c.args.self.now) same stands))))

pub returns-in-Block-clause-next : goal.returns-in-Block-clause-next
returns-in-Block-clause-next g c =
    let planned = c.args.accepted.now in
    subst (λ (e : RncEvent). KeepsNext planned e c.args.self.now c.block.new.self) (sym c.in-Block.is)
    (λ second has. next_kept planned second c.args.self.now c.block.new.self (c.block.ensures.next ∙ c.clear_shown.ensures.next) has)

pub receive_iub-requires-clause-opened : goal.receive_iub-requires-clause-opened
receive_iub-requires-clause-opened g c =
    c.clear_shown.ensures.opened c.args.accepted.now (subst (λ (e : RncEvent). IsReadyFor c.args.accepted.now e c.args.self.now) c.in-Iub.is c.requires.opened)

pub returns-in-Iub-clause-step : goal.returns-in-Iub-clause-step
returns-in-Iub-clause-step g c = λ before state active stands.
    let planned = c.args.accepted.now in
    let same : before ≡ planned = subst (λ (e : RncEvent). IsActiveBefore planned e before c.args.self.now) c.in-Iub.is active in
    subst (λ (e : RncEvent). Stepped planned state (event_of planned e) c.receive_iub.new.self (Tells g.U.Indications.shows c.args.user.now c.receive_iub.new.user)) (sym c.in-Iub.is)
    (c.receive_iub.ensures.step state (c.clear_shown.ensures.stands planned state (subst (λ (p : Planned). Represents p state c.args.self.now) same stands)))

pub returns-in-Iub-clause-next : goal.returns-in-Iub-clause-next
returns-in-Iub-clause-next g c =
    let planned = c.args.accepted.now in
    subst (λ (e : RncEvent). KeepsNext planned e c.args.self.now c.receive_iub.new.self) (sym c.in-Iub.is)
    (λ second has. next_kept planned second c.args.self.now c.receive_iub.new.self (c.receive_iub.ensures.next ∙ c.clear_shown.ensures.next) has)

pub tick-requires-clause-opened : goal.tick-requires-clause-opened
tick-requires-clause-opened g c =
    c.clear_shown.ensures.opened c.args.accepted.now (subst (λ (e : RncEvent). IsReadyFor c.args.accepted.now e c.args.self.now) c.in-Tick.is c.requires.opened)

pub returns-in-Tick-clause-step : goal.returns-in-Tick-clause-step
returns-in-Tick-clause-step g c = λ before state active stands.
    let planned = c.args.accepted.now in
    let same : before ≡ planned = subst (λ (e : RncEvent). IsActiveBefore planned e before c.args.self.now) c.in-Tick.is active in
    subst (λ (e : RncEvent). Stepped planned state (event_of planned e) c.tick.new.self (Tells g.U.Indications.shows c.args.user.now c.tick.new.user)) (sym c.in-Tick.is)
    (c.tick.ensures.step state (c.clear_shown.ensures.stands planned state (subst (λ (p : Planned). Represents p state c.args.self.now) same stands)))

pub returns-in-Tick-clause-next : goal.returns-in-Tick-clause-next
returns-in-Tick-clause-next g c =
    let planned = c.args.accepted.now in
    subst (λ (e : RncEvent). KeepsNext planned e c.args.self.now c.tick.new.self) (sym c.in-Tick.is)
    (λ second has. next_kept planned second c.args.self.now c.tick.new.self (c.tick.ensures.next ∙ c.clear_shown.ensures.next) has)

pub change-requires-clause-opened : goal.change-requires-clause-opened
change-requires-clause-opened g c =
    can_kept c.args.accepted.now c.args.self.now c.clear_shown.new.self c.clear_shown.ensures.opened c.clear_shown.ensures.next
    (subst (λ (e : RncEvent). IsReadyFor c.args.accepted.now e c.args.self.now) c.in-Change.is c.requires.opened)

pub returns-in-Change-clause-step : goal.returns-in-Change-clause-step
returns-in-Change-clause-step g c = λ before state active stands.
    let planned = c.args.accepted.now in
    subst (λ (e : RncEvent). Stepped planned state (event_of planned e) c.change.new.self (Tells g.U.Indications.shows c.args.user.now c.args.user.now)) (sym c.in-Change.is)
    (untold g.U.Indications.shows planned state _ c.change.new.self c.args.user.now (c.change.ensures.step before state
    (next_kept before planned c.args.self.now c.clear_shown.new.self c.clear_shown.ensures.next (subst (λ (e : RncEvent). IsActiveBefore planned e before c.args.self.now) c.in-Change.is active))
    (c.clear_shown.ensures.stands before state stands)))

pub returns-in-Change-clause-next : goal.returns-in-Change-clause-next
returns-in-Change-clause-next g c =
    subst (λ (e : RncEvent). KeepsNext c.args.accepted.now e c.args.self.now c.change.new.self) (sym c.in-Change.is) c.change.ensures.next
