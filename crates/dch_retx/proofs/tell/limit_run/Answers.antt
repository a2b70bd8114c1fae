use Rattle.std.proofs.Common.{arith}
use Rattle.dch_retx.proofs.Limits.{run_limit, run_none}
use Rattle.dch_retx.proofs.tell.limit_run.Goals as goal

pub returns-then-place-more : goal.returns-then-place-more
returns-then-place-more c = run_limit c.args.sent.window c.args.sent.first c.args.sent.count c.args.run.0 c.args.run.1 c.place_of-place.result c.requires.sent.2 c.place_of-place.ensures.place (omega arith)

pub returns-else-place-more : goal.returns-else-place-more
returns-else-place-more c = run_none c.args.sent.window c.args.sent.first c.args.sent.count c.args.run.0 c.args.run.1 c.place_of-place.result c.requires.sent.2 c.place_of-place.ensures.place (omega arith)
