use Rattle.std.proofs.Common.{refl, sym, subst, Option}
use Rattle.std.specs.Prelude.{option_map}
use Rattle.dch_layer2.specs.Changing.{IsNextLayer}
use Rattle.dch_node.specs.Standing.{AreNone}
use Rattle.dch_rnc.specs.Opened.{CanChange, HasNext, IsNext, IsNodeOf}
use Rattle.dch_rnc.specs.Standing.{IsAt, NothingShown, Stepped}
use Rattle.dch_rnc.specs.State.{Change}
use Rattle.dch_rnc.specs.Holding.{next_of, parts_of}
use Rattle.dch_rnc.specs.Values.{Node, node_of}
use Rattle.dch_rnc.specs.declared.parts.Next.{Next as NextHeld}
use Rattle.dch_rnc.specs.declared.parts.Parts.{Parts as PartsHeld}
use Rattle.dch_rnc.specs.contracts.node.Rnc.{the_view}
use Rattle.dch_types.specs.declared.channel.Dir.{Dir}
use Rattle.dch_rnc.proofs.Changing.{changed_is, changes, held_new, some_held}
use Rattle.dch_rnc.proofs.node.Rnc.change.Goals as goal

pub change-requires-clause-bearers : goal.change-requires-clause-bearers
change-requires-clause-bearers c =
    let can : CanChange c.args.accepted.now (the_view c.self.inside) = subst (λ (n : Node). CanChange c.args.accepted.now n) (sym c.self.view_is) c.requires.opened in
    record { first = can.first.config; layer = can.opened.layer.layer; stands = can.opened.layer.stands; keeps = can.next.kept }

pub change-requires-clause-next : goal.change-requires-clause-next
change-requires-clause-next c =
    let planned = c.args.accepted.now in
    let can : CanChange planned (the_view c.self.inside) = subst (λ (n : Node). CanChange planned n) (sym c.self.view_is) c.requires.opened in
    let next : IsNext planned (next_of c.in-Some.next) = held_new can.first planned (the_view c.self.inside) c.self.inside.next c.take.result c.in-Some.next can.next refl c.take.ensures.value c.in-Some.is in
    subst (λ (d : Dir). IsNextLayer planned.config d c.in-Some.next.layer) (sym can.opened.sends) next.layer

pub returns-in-Some-clause-opened : goal.returns-in-Some-clause-opened
returns-in-Some-clause-opened c =
    let planned = c.args.accepted.now in
    let can : CanChange planned (the_view c.self.inside) = subst (λ (n : Node). CanChange planned n) (sym c.self.view_is) c.requires.opened in
    let next : IsNext planned (next_of c.in-Some.next) = held_new can.first planned (the_view c.self.inside) c.self.inside.next c.take.result c.in-Some.next can.next refl c.take.ensures.value c.in-Some.is in
    subst (λ (p : PartsHeld). IsNodeOf planned (node_of c.self.inside.cfn c.change.new.self c.self.inside.read (parts_of p) (option_map next_of c.take.new.self))) (sym c.swap.ensures.x_after)
    (subst (λ (o : Option NextHeld). IsNodeOf planned (node_of c.self.inside.cfn c.change.new.self c.self.inside.read (parts_of c.in-Some.next.parts) (option_map next_of o))) (sym c.take.ensures.after)
    (changed_is can.first planned (the_view c.self.inside) c.change.new.self (parts_of c.in-Some.next.parts) can.opened can.next.kept c.change.ensures.ends c.change.ensures.stands next.parts))

pub returns-in-Some-clause-step : goal.returns-in-Some-clause-step
returns-in-Some-clause-step c = λ before state was at.
    let planned = c.args.accepted.now in
    let node : Node = the_view c.self.inside in
    let can : CanChange planned node = subst (λ (n : Node). CanChange planned n) (sym c.self.view_is) c.requires.opened in
    let has : HasNext before planned node = subst (λ (n : Node). HasNext before planned n) (sym c.self.view_is) was in
    let next : IsNext planned (next_of c.in-Some.next) = held_new before planned node c.self.inside.next c.take.result c.in-Some.next has refl c.take.ensures.value c.in-Some.is in
    subst (λ (p : PartsHeld). Stepped planned state (Change planned) (node_of c.self.inside.cfn c.change.new.self c.self.inside.read (parts_of p) (option_map next_of c.take.new.self)) AreNone) (sym c.swap.ensures.x_after)
    (subst (λ (o : Option NextHeld). Stepped planned state (Change planned) (node_of c.self.inside.cfn c.change.new.self c.self.inside.read (parts_of c.in-Some.next.parts) (option_map next_of o)) AreNone) (sym c.take.ensures.after)
    (changes before planned state node c.change.new.self (parts_of c.in-Some.next.parts) (subst (λ (n : Node). NothingShown n) (sym c.self.view_is) c.requires.quiet)
    (subst (λ (n : Node). IsAt before state n) (sym c.self.view_is) at) can.opened.sends has.kept c.change.ensures.stands next.parts))

pub returns-in_default-clause-opened : goal.returns-in_default-clause-opened
returns-in_default-clause-opened c =
    let can : CanChange c.args.accepted.now (the_view c.self.inside) = subst (λ (n : Node). CanChange c.args.accepted.now n) (sym c.self.view_is) c.requires.opened in
    absurd (some_held can.first c.args.accepted.now (the_view c.self.inside) c.self.inside.next c.take.result can.next refl c.take.ensures.value c.in_default.is)

pub returns-in_default-clause-step : goal.returns-in_default-clause-step
returns-in_default-clause-step c =
    let can : CanChange c.args.accepted.now (the_view c.self.inside) = subst (λ (n : Node). CanChange c.args.accepted.now n) (sym c.self.view_is) c.requires.opened in
    absurd (some_held can.first c.args.accepted.now (the_view c.self.inside) c.self.inside.next c.take.result can.next refl c.take.ensures.value c.in_default.is)
