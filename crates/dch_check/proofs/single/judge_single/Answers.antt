use Rattle.std.proofs.Common.{subst, take}
use Rattle.dch_check.specs.Verdicts.{Judges}
use Rattle.dch_check.proofs.Singles.{second_refused, single_judged}
use Rattle.dch_check.proofs.single.judge_single.Goals as goal

pub returns-in_default : goal.returns-in_default
returns-in_default c = single_judged c.args.text.now c.judge.result c.in_default.ensures.none c.judge.ensures

pub returns-in_ok-second_line-in-Accepted : goal.returns-in_ok-second_line-in-Accepted
returns-in_ok-second_line-in-Accepted c = second_refused c.args.text.now _ c.in-Some.at c.in-Accepted.accepted c.in-Some.ensures.some
    (subst (λ verdict. Judges (take c.in-Some.at c.args.text.now) verdict) c.in-Accepted.is c.in_ok-refused.ensures)
    c.in_ok-second_line-in-Accepted.ensures
