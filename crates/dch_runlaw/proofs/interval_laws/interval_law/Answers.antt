use Rattle.dch_runlaw.proofs.IntervalDown.{down_interval}
use Rattle.dch_runlaw.proofs.IntervalSets.{up_interval}
use Rattle.dch_runlaw.proofs.interval_laws.interval_law.Goals as goal

pub returns-clause-down : goal.returns-clause-down
returns-clause-down c = down_interval

pub returns-clause-up : goal.returns-clause-up
returns-clause-up c = up_interval
