use Rattle.dch_check.proofs.LineCuts.{line_all, line_at, rest_at, rest_none}
use Rattle.dch_check.proofs.both.cut_line.Goals as goal

pub returns-in-Some-clause-line : goal.returns-in-Some-clause-line
returns-in-Some-clause-line c = line_at c.args.bytes.now c.in-Some.at c.in-Some.ensures.value

pub returns-in-Some-clause-rest : goal.returns-in-Some-clause-rest
returns-in-Some-clause-rest c = rest_at c.args.bytes.now c.in-Some.at c.in-Some.ensures.value

pub returns-in-None-clause-line : goal.returns-in-None-clause-line
returns-in-None-clause-line c = line_all c.args.bytes.now c.in-None.ensures.value

pub returns-in-None-clause-rest : goal.returns-in-None-clause-rest
returns-in-None-clause-rest c = rest_none c.args.bytes.now c.in-None.ensures.value
