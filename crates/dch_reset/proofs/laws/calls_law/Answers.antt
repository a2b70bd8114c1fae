use Rattle.std.proofs.Common.{refl}
use Rattle.dch_reset.proofs.Calls.{answer_is, built_is, hears_is, resets_is}
use Rattle.dch_reset.proofs.laws.calls_law.Goals as goal

pub returns-clause-resets : goal.returns-clause-resets
returns-clause-resets c = λ rules e. resets_is e e.pending

pub returns-clause-builds : goal.returns-clause-builds
returns-clause-builds c = λ rules e. (built_is rules e e.owes e.pending refl).state

pub returns-clause-due : goal.returns-clause-due
returns-clause-due c = λ rules e. (built_is rules e e.owes e.pending refl).some

pub returns-clause-receives : goal.returns-clause-receives
returns-clause-receives c = hears_is

pub returns-clause-answers : goal.returns-clause-answers
returns-clause-answers c = answer_is
