use Rattle.std.proofs.Common.{◌∙◌}
use Rattle.dch_types.specs.declared.channel.Dir.TheVariants.{Up, Down}
use Rattle.dch_damage.specs.contracts.damage.Damage.{the_view}
use Rattle.dch_damage.specs.Lending.{radio_of}
use Rattle.dch_damage.specs.Opened.{IsWithinIf}
use Rattle.dch_damage.proofs.Arriving.{radio_arrives}
use Rattle.dch_damage.proofs.Sizes.{arrived_as_long, still_opened}
use Rattle.dch_damage.proofs.WaitingLemmas.{waits_arrived}
use Rattle.dch_damage.proofs.damage.Damage.hit_radio.Goals as goal

pub returns-in-Up : goal.returns-in-Up
returns-in-Up c =
    let within : IsWithinIf c.self.inside.up (radio_of c.args.sent) = rw (c.in-Up.is, ← c.self.view_is) at c.requires.room in
    rw (c.in-Up.is, ← c.self.view_is) (record {
      opened = λ planned is. still_opened planned (the_view c.self.inside) _ (arrived_as_long (the_view c.self.inside) _ _) is;
      arrives = λ damage waits. (
        waits_arrived damage (the_view c.self.inside) _ _ waits,
        c.receive.ensures.arrives ∙ radio_arrives damage Up c.self.inside.up (radio_of c.args.sent) (waits.radio Up) within,
      );
    })

pub returns-in-Down : goal.returns-in-Down
returns-in-Down c =
    let within : IsWithinIf c.self.inside.down (radio_of c.args.sent) = rw (c.in-Down.is, ← c.self.view_is) at c.requires.room in
    rw (c.in-Down.is, ← c.self.view_is) (record {
      opened = λ planned is. still_opened planned (the_view c.self.inside) _ (arrived_as_long (the_view c.self.inside) _ _) is;
      arrives = λ damage waits. (
        waits_arrived damage (the_view c.self.inside) _ _ waits,
        c.receive-in-Down.ensures.arrives ∙ radio_arrives damage Down c.self.inside.down (radio_of c.args.sent) (waits.radio Down) within,
      );
    })
