use Rattle.dch_gen.proofs.Good.{gen_good}
use Rattle.dch_gen.proofs.configuration.gen_is_good.Goals as goal

pub returns : goal.returns
returns c = gen_good
