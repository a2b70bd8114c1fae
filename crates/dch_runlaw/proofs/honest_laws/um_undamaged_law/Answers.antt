use Rattle.dch_runlaw.proofs.HonestHanded.{um_undamaged_down, um_undamaged_up}
use Rattle.dch_runlaw.proofs.honest_laws.um_undamaged_law.Goals as goal

pub returns-clause-up : goal.returns-clause-up
returns-clause-up c = um_undamaged_up

pub returns-clause-down : goal.returns-clause-down
returns-clause-down c = um_undamaged_down
