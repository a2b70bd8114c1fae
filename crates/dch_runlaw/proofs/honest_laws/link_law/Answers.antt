use Rattle.dch_runlaw.proofs.HonestHanded.{silent_history}
use Rattle.dch_runlaw.proofs.honest_laws.link_law.Goals as goal

pub returns : goal.returns
returns c = silent_history
