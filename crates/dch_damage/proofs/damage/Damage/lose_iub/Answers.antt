use Rattle.std.proofs.Common.{◌≡◌, ◌<◌, ◌∙◌, List, true, ap, arith, length}
use Rattle.std.proofs.lemmas.List.{with_items_is}
use Rattle.std.specs.Vec.{with_items}
use Rattle.dch_types.specs.declared.channel.Dir.TheVariants.{Up, Down}
use Rattle.dch_damage.specs.contracts.damage.Damage.{the_view}
use Rattle.dch_damage.specs.Tables.{IubTables, with_set}
use Rattle.dch_damage.proofs.Sizes.{lose_set_as_long, still_opened}
use Rattle.dch_damage.proofs.WaitingLemmas.{waits_lose_iub}
use Rattle.dch_damage.proofs.damage.Damage.lose_iub.Goals as goal

pub returns-in-Up : goal.returns-in-Up
returns-in-Up c =
    let sets = c.self.inside.up_sets in
    let inside : c.args.set < length sets.items = omega (arith, c.requires, c.self.invariant.iub_up.all) in
    let change : IubTables → IubTables = λ set. record set { lost = true } in
    let written : (with_items sets c.lose_set.new.sets).items ≡ with_set sets.items c.args.set change =
    with_items_is sets c.lose_set.new.sets (c.lose_set.auto.sets ∙ c.deref_mut.ensures.len) ∙ c.lose_set.ensures ∙ ap (λ (all : List IubTables). with_set all c.args.set change) c.deref_mut.ensures.value in
    rw (c.in-Up.is, ← c.self.view_is, written) (record {
      opened = λ planned is. still_opened planned (the_view c.self.inside) _ (lose_set_as_long (the_view c.self.inside) Up c.args.set inside) is;
      waits = λ damage waits. waits_lose_iub Up c.args.set damage (the_view c.self.inside) c.requires inside waits;
    })

pub returns-in-Down : goal.returns-in-Down
returns-in-Down c =
    let sets = c.self.inside.down_sets in
    let inside : c.args.set < length sets.items = omega (arith, c.requires, c.self.invariant.iub_down.all) in
    let change : IubTables → IubTables = λ set. record set { lost = true } in
    let written : (with_items sets c.lose_set-in-Down.new.sets).items ≡ with_set sets.items c.args.set change =
    with_items_is sets c.lose_set-in-Down.new.sets (c.lose_set-in-Down.auto.sets ∙ c.deref_mut-in-Down.ensures.len) ∙ c.lose_set-in-Down.ensures ∙ ap (λ (all : List IubTables). with_set all c.args.set change) c.deref_mut-in-Down.ensures.value in
    rw (c.in-Down.is, ← c.self.view_is, written) (record {
      opened = λ planned is. still_opened planned (the_view c.self.inside) _ (lose_set_as_long (the_view c.self.inside) Down c.args.set inside) is;
      waits = λ damage waits. waits_lose_iub Down c.args.set damage (the_view c.self.inside) c.requires inside waits;
    })
