use Rattle.dch_runlaw.proofs.HonestOver.{tm_down_silent_over, tm_down_undamaged_over, tm_up_silent_over, tm_up_undamaged_over}
use Rattle.dch_runlaw.proofs.over_laws.tm_over_law.Goals as goal

pub returns-clause-up : goal.returns-clause-up
returns-clause-up c = tm_up_silent_over

pub returns-clause-down : goal.returns-clause-down
returns-clause-down c = tm_down_silent_over

pub returns-clause-whole_up : goal.returns-clause-whole_up
returns-clause-whole_up c = tm_up_undamaged_over

pub returns-clause-whole_down : goal.returns-clause-whole_down
returns-clause-whole_down c = tm_down_undamaged_over
