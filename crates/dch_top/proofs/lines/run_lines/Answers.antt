use Rattle.std.proofs.Common.{refl}
use Rattle.dch_top.proofs.LineRuns.{lines_ran}
use Rattle.dch_top.proofs.lines.run_lines.Goals as goal

pub returns : goal.returns
returns g c = lines_ran g.H.LineHandler.semantics g.H.LineHandler.represents _ _ c.args.handler c.in-Ok-open.processor c.follow_input.new.processor _ c.follow_input.result c.of.result c.in-Ok-open.ensures c.follow_input.ensures refl c.of.ensures
