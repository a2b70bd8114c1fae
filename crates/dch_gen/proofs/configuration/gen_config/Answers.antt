use Rattle.dch_gen.specs.Configuration.{gen_config}
use Rattle.dch_gen.proofs.Good.{gen_good}
use Rattle.dch_gen.proofs.configuration.gen_config.Goals as goal

pub returns-clause-good : goal.returns-clause-good
unfolding gen_config
returns-clause-good c = rw (c.in_ok-side.ensures, c.in_ok-side-2.ensures, c.in_ok-bearers.ensures) gen_good
