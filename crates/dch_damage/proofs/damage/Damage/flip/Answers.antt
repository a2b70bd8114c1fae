use Rattle.dch_types.specs.declared.channel.Dir.TheVariants.{Up, Down}
use Rattle.dch_damage.specs.contracts.damage.Damage.{the_view}
use Rattle.dch_damage.proofs.Sizes.{flip_as_long, still_opened}
use Rattle.dch_damage.proofs.WaitingLemmas.{waits_flip}
use Rattle.dch_damage.proofs.damage.Damage.flip.Goals as goal

pub returns-in-Up : goal.returns-in-Up
returns-in-Up c = rw (c.in-Up.is, ← c.self.view_is, c.flip.ensures) (record {
  opened = λ planned is. still_opened planned (the_view c.self.inside) _ (flip_as_long (the_view c.self.inside) Up c.args.tfci c.args.place) is;
  waits = λ damage waits. waits_flip Up c.args.tfci c.args.place damage (the_view c.self.inside) waits;
})

pub returns-in-Down : goal.returns-in-Down
returns-in-Down c = rw (c.in-Down.is, ← c.self.view_is, c.flip-in-Down.ensures) (record {
  opened = λ planned is. still_opened planned (the_view c.self.inside) _ (flip_as_long (the_view c.self.inside) Down c.args.tfci c.args.place) is;
  waits = λ damage waits. waits_flip Down c.args.tfci c.args.place damage (the_view c.self.inside) waits;
})
