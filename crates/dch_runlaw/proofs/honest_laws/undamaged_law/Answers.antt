use Rattle.dch_runlaw.proofs.HonestHanded.{undamaged_history}
use Rattle.dch_runlaw.proofs.honest_laws.undamaged_law.Goals as goal

pub returns : goal.returns
returns c = undamaged_history
