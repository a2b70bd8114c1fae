use Rattle.std.proofs.Common.{◌∙◌, Some, ap, sym, subst}
use Rattle.dch_types.specs.declared.channel.Side.{Side}
use Rattle.dch_types.specs.Limits.{IsSide}
use Rattle.dch_node.specs.Standing.{AreNone}
use Rattle.dch_ue.specs.Opened.{CanChange, HasNext, IsNodeOf}
use Rattle.dch_ue.specs.Standing.{IsAt, Stepped}
use Rattle.dch_ue.specs.State.{Change}
use Rattle.dch_ue.specs.Values.{NextParts, Node}
use Rattle.dch_ue.specs.contracts.next.NextParts.{the_view as next_view}
use Rattle.dch_ue.specs.contracts.node.Ue.{the_view}
use Rattle.dch_ue.proofs.Changing.{changed_as, changed_is, changed_now, goes_on, next_layer, none_held}
use Rattle.dch_ue.proofs.node.Ue.change.Goals as goal

pub change-requires-clause-bearers : goal.change-requires-clause-bearers
change-requires-clause-bearers c = goes_on c.args.accepted.now (the_view c.self.inside) (subst (λ (n : Node). CanChange c.args.accepted.now n) (sym c.self.view_is) c.requires)

pub change-requires-clause-next : goal.change-requires-clause-next
change-requires-clause-next c =
    next_layer c.args.accepted.now (the_view c.self.inside) (next_view c.next.inside) (subst (λ (n : Node). CanChange c.args.accepted.now n) (sym c.self.view_is) c.requires)
    (sym c.take.ensures.value ∙ (c.in-Some.is ∙ ap (λ (parts : NextParts). Some parts) (sym c.next.view_is)))

pub returns-in-Some-clause-opened : goal.returns-in-Some-clause-opened
returns-in-Some-clause-opened c =
    let planned = c.args.accepted.now in
    let node : Node = the_view c.self.inside in
    let parts : NextParts = next_view c.next.inside in
    changed_as (λ (n : Node). IsNodeOf planned n) node c.change.new.self parts c.swap-in-Some.new.x c.swap.new.x c.take.new.self c.swap-in-Some.ensures.x_after c.swap.ensures.x_after c.take.ensures.after
    (changed_is planned node c.change.new.self parts (subst (λ (side : Side). IsSide side) c.side-side.ensures.value c.side-side.ensures.good) (subst (λ (n : Node). CanChange planned n) (sym c.self.view_is) c.requires)
    (sym c.take.ensures.value ∙ (c.in-Some.is ∙ ap (λ (x : NextParts). Some x) (sym c.next.view_is))) c.change.ensures.stands c.change.ensures.ends)

pub returns-in-Some-clause-step : goal.returns-in-Some-clause-step
returns-in-Some-clause-step c = λ before state has at.
    let planned = c.args.accepted.now in
    let node : Node = the_view c.self.inside in
    let parts : NextParts = next_view c.next.inside in
    changed_as (λ (n : Node). Stepped planned state (Change planned) n AreNone) node c.change.new.self parts c.swap-in-Some.new.x c.swap.new.x c.take.new.self c.swap-in-Some.ensures.x_after c.swap.ensures.x_after c.take.ensures.after
    (changed_now planned before state node c.change.new.self parts (subst (λ (side : Side). IsSide side) c.side-side.ensures.value c.side-side.ensures.good) (subst (λ (n : Node). CanChange planned n) (sym c.self.view_is) c.requires)
    (sym c.take.ensures.value ∙ (c.in-Some.is ∙ ap (λ (x : NextParts). Some x) (sym c.next.view_is))) c.change.ensures.stands (subst (λ (n : Node). HasNext before planned n) (sym c.self.view_is) has) (subst (λ (n : Node). IsAt before state n) (sym c.self.view_is) at))

pub returns-in_default : goal.returns-in_default
returns-in_default c =
    absurd (none_held c.args.accepted.now (the_view c.self.inside) (subst (λ (n : Node). CanChange c.args.accepted.now n) (sym c.self.view_is) c.requires) (sym c.take.ensures.value ∙ c.in_default.is))
