use Rattle.std.proofs.Common.{refl, sym, subst, Option, None}
use Rattle.std.specs.Prelude.{option_map}
use Rattle.dch_node.specs.Standing.{AreNone}
use Rattle.dch_nodeb.specs.Opened.{AreNew, CanChange, HasNext, IsNodeOf}
use Rattle.dch_nodeb.specs.Standing.{Represents, Stepped}
use Rattle.dch_nodeb.specs.State.{Change}
use Rattle.dch_nodeb.specs.Holding.{parts_of}
use Rattle.dch_nodeb.specs.Values.{Node, node_of}
use Rattle.dch_nodeb.specs.declared.parts.Parts.{Parts as PartsHeld}
use Rattle.dch_nodeb.specs.contracts.node.NodeB.{the_view}
use Rattle.dch_nodeb.proofs.Changing.{changes, held_new, some_held}
use Rattle.dch_nodeb.proofs.Opening.{new_node}
use Rattle.dch_nodeb.proofs.node.NodeB.change.Goals as goal

pub returns-in-Some-clause-opened : goal.returns-in-Some-clause-opened
returns-in-Some-clause-opened c =
    let can : CanChange c.args.accepted.now (the_view c.self.inside) = subst (λ (n : Node). CanChange c.args.accepted.now n) (sym c.self.view_is) c.requires in
    let new : AreNew c.args.accepted.now (parts_of c.in-Some.parts) =
    held_new can.first c.args.accepted.now (the_view c.self.inside) c.self.inside.next c.take.result c.in-Some.parts can.next refl c.take.ensures.value c.in-Some.is in
    subst (λ (o : Option PartsHeld). IsNodeOf c.args.accepted.now (node_of c.self.inside.cfn (parts_of c.in-Some.parts) (option_map parts_of o))) (sym c.take.ensures.after)
    (new_node c.args.accepted.now c.self.inside.cfn (parts_of c.in-Some.parts) None new)

pub returns-in-Some-clause-step : goal.returns-in-Some-clause-step
returns-in-Some-clause-step c = λ before state next was.
    let planned = c.args.accepted.now in
    let node : Node = the_view c.self.inside in
    let new : AreNew planned (parts_of c.in-Some.parts) =
    held_new before planned node c.self.inside.next c.take.result c.in-Some.parts (subst (λ (n : Node). HasNext before planned n) (sym c.self.view_is) next) refl c.take.ensures.value c.in-Some.is in
    subst (λ (o : Option PartsHeld). Stepped planned state (Change planned) (node_of c.self.inside.cfn (parts_of c.in-Some.parts) (option_map parts_of o)) AreNone) (sym c.take.ensures.after)
    (changes planned before state node (parts_of c.in-Some.parts) new (subst (λ (n : Node). Represents before state n) (sym c.self.view_is) was))

pub returns-in_default-clause-opened : goal.returns-in_default-clause-opened
returns-in_default-clause-opened c =
    let can : CanChange c.args.accepted.now (the_view c.self.inside) = subst (λ (n : Node). CanChange c.args.accepted.now n) (sym c.self.view_is) c.requires in
    absurd (some_held can.first c.args.accepted.now (the_view c.self.inside) c.self.inside.next c.take.result can.next refl c.take.ensures.value c.in_default.is)

pub returns-in_default-clause-step : goal.returns-in_default-clause-step
returns-in_default-clause-step c =
    let can : CanChange c.args.accepted.now (the_view c.self.inside) = subst (λ (n : Node). CanChange c.args.accepted.now n) (sym c.self.view_is) c.requires in
    absurd (some_held can.first c.args.accepted.now (the_view c.self.inside) c.self.inside.next c.take.result can.next refl c.take.ensures.value c.in_default.is)
