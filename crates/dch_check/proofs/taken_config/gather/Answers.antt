use Rattle.dch_check.proofs.Taking.{behind_at_end}
use Rattle.dch_check.proofs.taken_config.gather.Goals as goal

pub overflow_sub-result : goal.overflow_sub-result
overflow_sub-result c = rw c.in-Ok.ensures.left ((behind_at_end c.args.section.now c.args.piece.now).0)

pub returns-in-Ok-clause-behind : goal.returns-in-Ok-clause-behind
returns-in-Ok-clause-behind c = rw c.in-Ok.ensures.left ((behind_at_end c.args.section.now c.args.piece.now).1)
