use Rattle.dch_amlaw.proofs.listed_laws.listed_law.Goals as goal
use Rattle.dch_amlaw.proofs.Listed.{always_listed}

pub returns : goal.returns
returns c = always_listed
