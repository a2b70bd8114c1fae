use Rattle.std.proofs.Common.{subst}
use Rattle.dch_check.specs.Verdicts.{Judges}
use Rattle.dch_check.proofs.BothJudgements.{alone_accepted, alone_refused}
use Rattle.dch_check.proofs.both.judge_alone.Goals as goal

pub returns-in-Accepted : goal.returns-in-Accepted
returns-in-Accepted c = alone_accepted c.args.text.now c.in-Accepted.first c.requires (subst (Judges c.args.text.now) c.in-Accepted.is c.in_ok-first.ensures)

pub returns-in-Refused : goal.returns-in-Refused
returns-in-Refused c = alone_refused c.args.text.now _ c.requires (subst (Judges c.args.text.now) c.in-Refused.is c.in_ok-first.ensures)
