use Rattle.dch_runlaw.proofs.Unharmed.{unharmed_gets}
use Rattle.dch_runlaw.proofs.legs_laws.unharmed_law.Goals as goal

pub returns : goal.returns
returns c = unharmed_gets
