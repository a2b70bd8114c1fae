use Rattle.dch_reset.proofs.history_laws.reset_law.Goals as goal
use Rattle.dch_reset.proofs.Safe.{always_safe}
use Rattle.dch_reset.proofs.Short.{always_short}

pub returns-clause-short_near : goal.returns-clause-short_near
returns-clause-short_near c = λ rules first second events window. (always_short rules first second events window).0

pub returns-clause-short_far : goal.returns-clause-short_far
returns-clause-short_far c = λ rules first second events window. (always_short rules first second events window).1

pub returns-clause-safe : goal.returns-clause-safe
returns-clause-safe c = always_safe
