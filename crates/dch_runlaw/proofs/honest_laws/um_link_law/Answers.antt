use Rattle.dch_runlaw.proofs.HonestHanded.{um_silent_down, um_silent_up}
use Rattle.dch_runlaw.proofs.honest_laws.um_link_law.Goals as goal

pub returns-clause-up : goal.returns-clause-up
returns-clause-up c = um_silent_up

pub returns-clause-down : goal.returns-clause-down
returns-clause-down c = um_silent_down
