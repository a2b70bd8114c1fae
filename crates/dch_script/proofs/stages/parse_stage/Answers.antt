use Rattle.dch_script.proofs.StagesKept.{stages_keep}
use Rattle.dch_script.proofs.stages.parse_stage.Goals as goal

pub returns-clause-good : goal.returns-clause-good
returns-clause-good c = stages_keep c.args.config.now c.args.line.now c.stage_line.result c.stage_line.ensures
