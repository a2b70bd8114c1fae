use Rattle.dch_runlaw.proofs.HonestHanded.{tm_undamaged_down, tm_undamaged_up}
use Rattle.dch_runlaw.proofs.honest_laws.tm_undamaged_law.Goals as goal

pub returns-clause-up : goal.returns-clause-up
returns-clause-up c = tm_undamaged_up

pub returns-clause-down : goal.returns-clause-down
returns-clause-down c = tm_undamaged_down
