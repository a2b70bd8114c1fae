use Rattle.dch_top.proofs.Checks.{answered, unanswered}
use Rattle.dch_top.proofs.check.run_check.Goals as goal

pub returns-in-Ok : goal.returns-in-Ok
returns-in-Ok g c = answered _ _ _ _ _ _ _ _ c.in-Ok.answer c.write_answer.result c.in-Ok.ensures c.write_answer.ensures

pub returns-in-Err : goal.returns-in-Err
returns-in-Err g c = unanswered _ _ _ _ _ _ c.in-Err.status c.in-Err.ensures
