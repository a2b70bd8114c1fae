use Rattle.dch_types.specs.declared.channel.Dir.TheVariants.{Up, Down}
use Rattle.dch_damage.specs.contracts.damage.Damage.{the_view}
use Rattle.dch_damage.proofs.Sizes.{lose_as_long, still_opened}
use Rattle.dch_damage.proofs.WaitingLemmas.{waits_lose}
use Rattle.dch_damage.proofs.damage.Damage.lose.Goals as goal

pub returns-in-Up : goal.returns-in-Up
returns-in-Up c = rw (c.in-Up.is, ← c.self.view_is, c.lose.ensures) (record {
  opened = λ planned is. still_opened planned (the_view c.self.inside) _ (lose_as_long (the_view c.self.inside) Up) is;
  waits = λ damage waits. waits_lose Up damage (the_view c.self.inside) waits;
})

pub returns-in-Down : goal.returns-in-Down
returns-in-Down c = rw (c.in-Down.is, ← c.self.view_is, c.lose-in-Down.ensures) (record {
  opened = λ planned is. still_opened planned (the_view c.self.inside) _ (lose_as_long (the_view c.self.inside) Down) is;
  waits = λ damage waits. waits_lose Down damage (the_view c.self.inside) waits;
})
