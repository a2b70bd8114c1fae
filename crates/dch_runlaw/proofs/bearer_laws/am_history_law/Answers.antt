use Rattle.dch_runlaw.proofs.bearer_laws.am_history_law.Goals as goal
use Rattle.dch_runlaw.proofs.Histories.{am_history}
use Rattle.dch_runlaw.proofs.Parts.{over_parts}

pub returns-clause-one : goal.returns-clause-one
returns-clause-one c = am_history

pub returns-clause-two : goal.returns-clause-two
returns-clause-two c = over_parts
