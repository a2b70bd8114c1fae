use Rattle.dch_top.proofs.Complete.{encoded}
use Rattle.dch_top.proofs.lines.run_encode.Goals as goal

pub returns-in-Ok : goal.returns-in-Ok
returns-in-Ok g c = encoded _ _ c.run_lines.result (c.run_lines.ensures tt tt)
