use Rattle.dch_top.proofs.Judging.{config_fault, judged_fault, judged_good}
use Rattle.dch_top.proofs.check.judge_taken.Goals as goal

pub returns-in-Err : goal.returns-in-Err
returns-in-Err g c = rw c.status_of.ensures (config_fault _ _ _ _ c.take_config.new.piece c.in-Err.fault c.in-Err.ensures)

pub returns-in-Ok-pass_over : goal.returns-in-Ok-pass_over
returns-in-Ok-pass_over g c =
    judged_good _ _ _ _ _ _ c.take_config.new.piece c.in-Ok.front c.in-Ok-Accepted.line c.in-Ok.ensures c.if-front.false (rw c.in-Ok-Accepted.field-0-is at c.in-Ok-Accepted.ensures) c.in-Ok-pass_over.ensures.passes

pub returns-in-Ok-Accepted-2 : goal.returns-in-Ok-Accepted-2
returns-in-Ok-Accepted-2 g c =
    judged_fault _ _ _ _ _ _ c.take_config.new.piece c.in-Ok.front c.in-Ok-Accepted.line c.in-Err-pass_over.status c.in-Ok.ensures c.if-front.false (rw c.in-Ok-Accepted.field-0-is at c.in-Ok-Accepted.ensures) c.in-Err-pass_over.ensures.passes
