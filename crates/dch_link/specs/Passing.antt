-- The stages of a radio frame, one after another.
use Rattle.std.specs.Prelude.{◌+◌, ◌-◌, ◌%◌, ◌==◌, ◌<◌, ℕ, Bool, true, false, Option, Some, None, if◌then◌else◌}
use Rattle.dch_link.specs.declared.stage.Stage.{Stage}
use Rattle.dch_link.specs.declared.stage.Stage.TheVariants.{RncTick, IubDown, RadioDown, UeTick, RadioUp, IubUp}

-- a stage that there is: there are eight sets at most
abbrev pub IsStage : Stage → Type 0
IsStage RncTick = Unit {0}
IsStage (IubDown set) = set < 8
IsStage RadioDown = Unit {0}
IsStage UeTick = Unit {0}
IsStage RadioUp = Unit {0}
IsStage (IubUp set) = set < 8

-- the stage after one, if that isn't the last one
abbrev pub next_stage : Stage → Option Stage
next_stage RncTick = Some (IubDown 0)
next_stage (IubDown set) = if set == 7 then Some RadioDown else Some (IubDown (set + 1))
next_stage RadioDown = Some UeTick
next_stage UeTick = Some RadioUp
next_stage RadioUp = Some (IubUp 0)
next_stage (IubUp set) = if set == 7 then None else Some (IubUp (set + 1))

-- how many stages are left of a radio frame, with this one
abbrev pub stages_left : Stage → ℕ
stages_left RncTick = 20
stages_left (IubDown set) = 19 - set
stages_left RadioDown = 11
stages_left UeTick = 10
stages_left RadioUp = 9
stages_left (IubUp set) = 8 - set

-- a radio frame begins with this stage
abbrev pub is_first : Stage → Bool
is_first RncTick = true
is_first (IubDown set) = false
is_first RadioDown = false
is_first UeTick = false
is_first RadioUp = false
is_first (IubUp set) = false

-- the CFN of the terminal after a stage: it goes on where 10 ms pass there
abbrev pub cfn_after : Stage → ℕ → ℕ
cfn_after RncTick cfn = cfn
cfn_after (IubDown set) cfn = cfn
cfn_after RadioDown cfn = cfn
cfn_after UeTick cfn = (cfn + 1) % 256
cfn_after RadioUp cfn = cfn
cfn_after (IubUp set) cfn = cfn
