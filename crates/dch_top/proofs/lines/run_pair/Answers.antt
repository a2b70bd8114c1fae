use Rattle.std.proofs.Common.{None, subst, sym}
use Rattle.dch_paircmd.specs.Handlers.{RepresentsRun}
use Rattle.dch_top.proofs.lines.run_pair.Goals as goal

pub returns-in-Ok : goal.returns-in-Ok
returns-in-Ok g c = c.run_lines.ensures None (subst (λ h. RepresentsRun None h) (sym c.in-Ok.ensures) tt)
