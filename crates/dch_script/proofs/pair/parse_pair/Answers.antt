use Rattle.dch_script.proofs.PairKept.{pair_keeps}
use Rattle.dch_script.proofs.pair.parse_pair.Goals as goal

pub returns-clause-good : goal.returns-clause-good
returns-clause-good c = pair_keeps c.args.line.now c.pair_line.result c.pair_line.ensures
