-- How much a node reports.
use Rattle.std.specs.Prelude.{◌+◌, ◌*◌, ℕ, length}
use Rattle.dch_types.specs.declared.config.Config.{Config}

-- the bytes of report of one step: so many, and so many more for each bearer
abbrev pub step_bytes : Config → ℕ
step_bytes config = 4000000 + 2500000 * length config.bearers
