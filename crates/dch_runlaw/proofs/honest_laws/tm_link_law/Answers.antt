use Rattle.dch_runlaw.proofs.HonestHanded.{tm_silent_down, tm_silent_up}
use Rattle.dch_runlaw.proofs.honest_laws.tm_link_law.Goals as goal

pub returns-clause-up : goal.returns-clause-up
returns-clause-up c = tm_silent_up

pub returns-clause-down : goal.returns-clause-down
returns-clause-down c = tm_silent_down
