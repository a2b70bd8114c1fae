use Rattle.std.proofs.Common.{◌≡◌, ◌<◌, ◌≤◌, ◌++◌, ◌∙◌, List, ap, arith, drop, length, sym, subst, take}
use Rattle.dch_types.specs.declared.channel.Side.{Side}
use Rattle.dch_types.specs.declared.config.Config.{Config}
use Rattle.dch_types.specs.Parts.{side_of}
use Rattle.dch_accept.proofs.Overwritten.{whole_written}
use Rattle.dch_layer2.specs.Layers.{changed_layer}
use Rattle.dch_layer2.specs.declared.bearer.Bearer.{Bearer}
use Rattle.dch_layer2.specs.Changing.{AllGoOn, CanAllGoOn, CanGoOn, IsNextLayer}
use Rattle.dch_layer2.specs.Standing.{Represents}
use Rattle.dch_layer2.specs.Values.{LayerRunning, NextLayer}
use Rattle.dch_layer2.specs.contracts.changing.NextLayer.{the_view as next_view}
use Rattle.dch_layer2.specs.contracts.layer.Layer2.{the_view}
use Rattle.dch_layer2.proofs.GoingOn.{can_all, changed_as, changed_stands, changed_to}
use Rattle.dch_layer2.proofs.layer.Layer2.change.Goals as goal

pub change_bearers-requires : goal.change_bearers-requires
change_bearers-requires c =
    subst (λ (bearers : List Bearer). CanAllGoOn c.args.accepted.now.config c.self.inside.out bearers) (sym c.deref_mut.ensures.value)
    (can_all c.args.accepted.now.config (the_view c.self.inside) (subst (λ (v : LayerRunning). CanGoOn c.args.accepted.now.config v) (sym c.self.view_is) c.requires.bearers))

pub returns-clause-stands : goal.returns-clause-stands
returns-clause-stands c first layer is kept =
    let second : Config = c.args.accepted.now.config in
    let old : LayerRunning = the_view c.self.inside in
    let next : NextLayer = next_view c.next.inside in
    let bearers : take c.self.inside.bearers.len (c.change_bearers.new.bearers ++ drop (length c.change_bearers.new.bearers) c.self.inside.bearers.items) ≡ c.change_bearers.new.bearers =
    whole_written c.self.inside.bearers.len c.self.inside.bearers.items c.change_bearers.new.bearers c.self.inside.bearers.ok.0 (c.change_bearers.auto.bearers ∙ ap length c.deref_mut.ensures.value) in
    let least : 1 ≤ length (side_of second c.self.inside.out).combinations = subst (λ (side : Side). 1 ≤ length side.combinations) c.side-side.ensures.value c.side-side.ensures.good.some_combination in
    let some : 0 < length (side_of second c.self.inside.out).combinations = omega (arith, least) in
    let goes : AllGoOn second old.out old.bearers c.change_bearers.new.bearers = subst (λ (bs : List Bearer). AllGoOn second old.out bs c.change_bearers.new.bearers) c.deref_mut.ensures.value c.change_bearers.ensures in
    let new : IsNextLayer second old.out next = subst (λ (n : NextLayer). IsNextLayer second old.out n) (sym c.next.view_is)
    (subst (λ (v : LayerRunning). IsNextLayer second v.out c.args.next.now) (sym c.self.view_is) c.requires.next) in
    subst (λ (v : LayerRunning). Represents second (changed_layer second v.out layer) (changed_to old (take c.self.inside.bearers.len (c.change_bearers.new.bearers ++ drop (length c.change_bearers.new.bearers) c.self.inside.bearers.items)) c.swap-2.new.x.items c.swap.new.x.items)) c.self.view_is
    (changed_as second (changed_layer second old.out layer) old next c.change_bearers.new.bearers (take c.self.inside.bearers.len (c.change_bearers.new.bearers ++ drop (length c.change_bearers.new.bearers) c.self.inside.bearers.items)) c.swap-2.new.x.items c.swap.new.x.items bearers
    (ap (λ v. v.items) c.swap-2.ensures.x_after) (ap (λ v. v.items) c.swap.ensures.x_after)
    (changed_stands second first old next c.change_bearers.new.bearers layer some (subst (λ (v : LayerRunning). Represents first layer v) (sym c.self.view_is) is) kept new goes))
