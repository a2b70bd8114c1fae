use Rattle.std.proofs.Common.{◌<◌, ◌≤◌, ◌+◌, ◌*◌, ◌^◌, ℕ, length, arith, subst}
use Rattle.dch_types.specs.declared.config.Config.{Config}
use Rattle.dch_gen.specs.Generators.{stage_bytes}
use Rattle.dch_gen.proofs.generator.Generator.open.Goals as goal

-- the texts of all steps of a longest run
all_few : (n : ℕ) → n ≤ 16 → 3200000 * (4000000 + 2500000 * n + 2400) < 2 ^ 64
all_few n few = omega (arith, few)

pub returns-clause-room : goal.returns-clause-room
returns-clause-room c =
    let few : length c.args.accepted.config.bearers ≤ 16 = subst (λ (config : Config). length config.bearers ≤ 16) c.config-config.ensures.value c.config-config.ensures.good.few in
    record { room = c.new.ensures.room (3200000 * stage_bytes c.args.accepted.config) (all_few (length c.args.accepted.config.bearers) few) }
