use Rattle.dch_runlaw.proofs.Taking.{leg_takes}
use Rattle.dch_runlaw.proofs.legs_laws.leg_law.Goals as goal

pub returns : goal.returns
returns c = leg_takes
