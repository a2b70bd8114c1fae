use Rattle.dch_runlaw.proofs.Undamaged.{harmless_carries, harmless_carries_over}
use Rattle.dch_runlaw.proofs.undamaged_laws.harmless_run_law.Goals as goal

pub returns-clause-alone : goal.returns-clause-alone
returns-clause-alone c = harmless_carries

pub returns-clause-over : goal.returns-clause-over
returns-clause-over c = harmless_carries_over
