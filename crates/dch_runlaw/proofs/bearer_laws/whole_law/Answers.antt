use Rattle.dch_runlaw.proofs.bearer_laws.whole_law.Goals as goal
use Rattle.dch_runlaw.proofs.Histories.{whole_history}
use Rattle.dch_runlaw.proofs.Parts.{whole_parts}

pub returns-clause-one : goal.returns-clause-one
returns-clause-one c = whole_history

pub returns-clause-two : goal.returns-clause-two
returns-clause-two c = whole_parts
