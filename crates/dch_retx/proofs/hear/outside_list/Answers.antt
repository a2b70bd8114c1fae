use Rattle.std.proofs.Common.{◌∙◌, arith, sym}
use Rattle.dch_rlcpdu.specs.Fields.{pairs_of}
use Rattle.dch_retx.specs.StatusItems.{first_of}
use Rattle.dch_retx.proofs.Fields.{run_inside, run_outside}
use Rattle.dch_retx.proofs.hear.outside_list.Goals as goal

pub returns-then-is_some : goal.returns-then-is_some
returns-then-is_some c = sym (c.loop-j.invariant ∙ run_outside c.args.sent.window c.args.sent.first c.args.sent.count (pairs_of (first_of c.args.cursor.now)) c.loop-j.j c.pair-run.result c.outside_run-found.result (omega arith) (sym c.pair-run.ensures.value) c.outside_run-found.ensures (sym c.is_some.ensures ∙ c.if-is_some.true))

pub loop-j-preserved : goal.loop-j-preserved
loop-j-preserved c = c.loop-j.invariant ∙ run_inside c.args.sent.window c.args.sent.first c.args.sent.count (pairs_of (first_of c.args.cursor.now)) c.loop-j.j c.pair-run.result c.outside_run-found.result (omega arith) (sym c.pair-run.ensures.value) c.outside_run-found.ensures (sym c.is_some.ensures ∙ c.if-is_some.false)
