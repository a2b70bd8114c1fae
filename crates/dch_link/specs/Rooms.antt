-- How much a stage writes to the report.
use Rattle.std.specs.Prelude.{◌+◌, ℕ}
use Rattle.dch_types.specs.declared.config.Config.{Config}
use Rattle.dch_accept.specs.Reports.{step_bytes}
use Rattle.dch_link.specs.declared.soft_stage.Stage.{Stage}
use Rattle.dch_link.specs.declared.soft_stage.Stage.TheVariants.{RncTick, IubDown, RadioDown, UeTick, RadioUp, IubUp, Combine}

-- the most bytes of each stage; those of a leg have less, since its Node B reports no units
abbrev pub stage_bytes : Config → Stage → ℕ
stage_bytes config RncTick = step_bytes config
stage_bytes config (IubDown leg set) = 4000000
stage_bytes config (RadioDown leg) = 4000000
stage_bytes config UeTick = step_bytes config
stage_bytes config (RadioUp leg) = 4000000
stage_bytes config (IubUp set leg) = 4000000
stage_bytes config (Combine set) = step_bytes config + 300000
