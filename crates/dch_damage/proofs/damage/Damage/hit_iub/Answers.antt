use Rattle.std.proofs.Common.{◌≡◌, ◌<◌, ◌∙◌, ap, arith, length}
use Rattle.std.proofs.lemmas.List.{get_or_default}
use Rattle.dch_types.specs.declared.channel.Dir.TheVariants.{Up, Down}
use Rattle.dch_damage.specs.contracts.damage.Damage.{the_view}
use Rattle.dch_damage.specs.Lending.{octets_of}
use Rattle.dch_damage.specs.Opened.{IsIubWithin}
use Rattle.dch_damage.specs.Tables.{IubTables, iub_through, set_in}
use Rattle.dch_damage.proofs.Arriving.{iub_arrives}
use Rattle.dch_damage.proofs.Sizes.{arrived_as_long, still_opened}
use Rattle.dch_damage.proofs.WaitingLemmas.{waits_arrived}
use Rattle.dch_damage.proofs.damage.Damage.hit_iub.Goals as goal

pub returns-in-Up : goal.returns-in-Up
returns-in-Up c =
    let sets = c.self.inside.up_sets.items in
    let octets = octets_of c.args.sent in
    let inside : c.args.set < length sets = omega (arith, c.requires.set, c.self.invariant.iub_up.all) in
    let own : c.index.result.now ≡ set_in sets c.args.set = c.index.ensures ∙ get_or_default sets c.args.set _ _ inside in
    let within : IsIubWithin (set_in sets c.args.set) octets = rw (c.in-Up.is, ← c.self.view_is) at c.requires.room in
    rw (c.in-Up.is, ← c.self.view_is) (record {
      opened = λ planned is. still_opened planned (the_view c.self.inside) _ (arrived_as_long (the_view c.self.inside) _ _) is;
      arrives = λ damage waits. (
        waits_arrived damage (the_view c.self.inside) _ _ waits,
        c.receive.ensures.arrives ∙ ap (λ (set : IubTables). iub_through set octets) own ∙ iub_arrives damage Up c.args.set (set_in sets c.args.set) octets (waits.iub Up c.args.set c.requires.set) within,
      );
    })

pub returns-in-Down : goal.returns-in-Down
returns-in-Down c =
    let sets = c.self.inside.down_sets.items in
    let octets = octets_of c.args.sent in
    let inside : c.args.set < length sets = omega (arith, c.requires.set, c.self.invariant.iub_down.all) in
    let own : c.index-in-Down.result.now ≡ set_in sets c.args.set = c.index-in-Down.ensures ∙ get_or_default sets c.args.set _ _ inside in
    let within : IsIubWithin (set_in sets c.args.set) octets = rw (c.in-Down.is, ← c.self.view_is) at c.requires.room in
    rw (c.in-Down.is, ← c.self.view_is) (record {
      opened = λ planned is. still_opened planned (the_view c.self.inside) _ (arrived_as_long (the_view c.self.inside) _ _) is;
      arrives = λ damage waits. (
        waits_arrived damage (the_view c.self.inside) _ _ waits,
        c.receive-in-Down.ensures.arrives ∙ ap (λ (set : IubTables). iub_through set octets) own ∙ iub_arrives damage Down c.args.set (set_in sets c.args.set) octets (waits.iub Down c.args.set c.requires.set) within,
      );
    })
