use Rattle.dch_runlaw.proofs.EndEvents.{run_faithful, run_listed}
use Rattle.dch_runlaw.proofs.soft_nodes_laws.soft_events_law.Goals as goal

pub returns-clause-events : goal.returns-clause-events
returns-clause-events c = run_listed

pub returns-clause-faithful : goal.returns-clause-faithful
returns-clause-faithful c = run_faithful
