use Rattle.dch_runlaw.proofs.HonestHanded.{part_honest}
use Rattle.dch_runlaw.proofs.honest_laws.honest_law.Goals as goal

pub returns : goal.returns
returns c = part_honest
