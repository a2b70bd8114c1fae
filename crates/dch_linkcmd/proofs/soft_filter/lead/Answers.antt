use Rattle.std.proofs.Common.{arith}
use Rattle.dch_lines.proofs.Seen.{lead_is}
use Rattle.dch_linkcmd.proofs.soft_filter.lead.Goals as goal

pub returns-in-Some-eq0 : goal.returns-in-Some-eq0
returns-in-Some-eq0 c = lead_is c.args.leg 0 (cc (c.in-Some-eq0.is, c.in-Some-eq0.field-0-is)) (omega arith)

pub returns-in-Some-eq1 : goal.returns-in-Some-eq1
returns-in-Some-eq1 c = lead_is c.args.leg 1 (cc (c.in-Some-eq1.is, c.in-Some-eq1.field-0-is)) (omega arith)

pub returns-in-Some-eq2 : goal.returns-in-Some-eq2
returns-in-Some-eq2 c = lead_is c.args.leg 2 (cc (c.in-Some-eq2.is, c.in-Some-eq2.field-0-is)) (omega arith)

pub returns-in-Some-eq3 : goal.returns-in-Some-eq3
returns-in-Some-eq3 c = lead_is c.args.leg 3 (cc (c.in-Some-eq3.is, c.in-Some-eq3.field-0-is)) (omega arith)

pub returns-in-Some-eq4 : goal.returns-in-Some-eq4
returns-in-Some-eq4 c = lead_is c.args.leg 4 (cc (c.in-Some-eq4.is, c.in-Some-eq4.field-0-is)) (omega arith)

pub returns-in-Some-eq5 : goal.returns-in-Some-eq5
returns-in-Some-eq5 c = lead_is c.args.leg 5 (cc (c.in-Some-eq5.is, c.in-Some-eq5.field-0-is)) (omega arith)
