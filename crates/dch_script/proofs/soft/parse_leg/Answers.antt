use Rattle.dch_script.proofs.SoftKept.{answer_keeps}
use Rattle.dch_script.proofs.soft.parse_leg.Goals as goal

pub returns-clause-good : goal.returns-clause-good
returns-clause-good c = answer_keeps c.args.legs c.args.config.now c.args.line.now c.soft_line.result c.soft_line.ensures
