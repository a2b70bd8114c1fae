use Rattle.std.proofs.Common.{◌+◌, ◌-◌, ◌%◌, ◌∙◌, Some, arith, ap}
use Rattle.dch_retx.proofs.Fields.{run_edge, run_in}
use Rattle.dch_retx.proofs.hear.outside_run.Goals as goal

pub returns-then-place-more : goal.returns-then-place-more
returns-then-place-more c = run_in c.args.sent.window c.args.sent.first c.args.sent.count c.args.run.0 c.args.run.1 c.requires.sent.2 (omega (arith, c.place_of-place.ensures.place))

pub returns : goal.returns
returns c =
    ap (λ k. Some ((c.args.run.0 + (c.args.sent.count - k)) % 4096)) c.place_of-place.ensures.place
    ∙ run_edge c.args.sent.window c.args.sent.first c.args.sent.count c.args.run.0 c.args.run.1 c.requires.sent.2 (omega (arith, c.place_of-place.ensures.place)) (omega (arith, c.place_of-place.ensures.place))
