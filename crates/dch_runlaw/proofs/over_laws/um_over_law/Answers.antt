use Rattle.dch_runlaw.proofs.HonestOver.{um_down_silent_over, um_down_undamaged_over, um_up_silent_over, um_up_undamaged_over}
use Rattle.dch_runlaw.proofs.over_laws.um_over_law.Goals as goal

pub returns-clause-up : goal.returns-clause-up
returns-clause-up c = um_up_silent_over

pub returns-clause-down : goal.returns-clause-down
returns-clause-down c = um_down_silent_over

pub returns-clause-whole_up : goal.returns-clause-whole_up
returns-clause-whole_up c = um_up_undamaged_over

pub returns-clause-whole_down : goal.returns-clause-whole_down
returns-clause-whole_down c = um_down_undamaged_over
