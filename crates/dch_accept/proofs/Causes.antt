-- The causes of the refusals, one test after another.
use Rattle.std.proofs.Common.{◌≤◌}
use Rattle.dch_types.specs.declared.config.Config.{Config}
use Rattle.dch_accept.specs.declared.refusal.Refusal.{Refusal}
use Rattle.dch_accept.specs.declared.refusal.Refusal.TheVariants.{NoMemory, NoRate, Sequences, Collision}
use Rattle.dch_accept.specs.Answers.{HaveAllRates, IsWithoutPlans, IsUnsearched, IsCause, count_of}

pub without_plans : (config : Config) (refusal : Refusal) → IsWithoutPlans config.uplink refusal → IsCause config refusal
without_plans config NoMemory cause = tt
without_plans config (NoRate c) cause = cause
without_plans config (Sequences count) cause = absurd cause
without_plans config (Collision dir i f r sequence first second) cause = absurd cause

pub collided : (config : Config) (refusal : Refusal) → HaveAllRates config → count_of config ≤ 2048 → IsUnsearched config refusal → IsCause config refusal
collided config NoMemory rates few cause = tt
collided config (NoRate c) rates few cause = absurd cause
collided config (Sequences count) rates few cause = absurd cause
collided config (Collision dir i f r sequence first second) rates few cause = record { rates = rates; few = few; is = cause }
