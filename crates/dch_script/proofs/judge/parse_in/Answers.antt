use Rattle.dch_script.proofs.Judged.{event_keeps}
use Rattle.dch_script.proofs.Within.{event_within}
use Rattle.dch_script.proofs.judge.parse_in.Goals as goal

pub returns-clause-good : goal.returns-clause-good
returns-clause-good c = event_keeps c.args.command c.args.config.now c.args.line.now c.line_event.result c.line_event.ensures

pub returns-clause-within : goal.returns-clause-within
returns-clause-within c = event_within c.args.command c.args.config.now c.args.line.now c.line_event.result c.line_event.ensures
