-- The stages of a radio frame with so many legs, one after another.
use Rattle.std.specs.Prelude.{◌+◌, ◌-◌, ◌*◌, ◌==◌, ◌<◌, ℕ, Option, Some, None, if◌then◌else◌, nat_lt}
use Rattle.dch_link.specs.declared.soft_stage.Stage.{Stage}
use Rattle.dch_link.specs.declared.soft_stage.Stage.TheVariants.{RncTick, IubDown, RadioDown, UeTick, RadioUp, IubUp, Combine}

-- a stage that there is: there are eight sets at most
abbrev pub IsStage : ℕ → Stage → Type 0
IsStage legs RncTick = Unit {0}
IsStage legs (IubDown leg set) = (leg < legs) × (set < 8)
IsStage legs (RadioDown leg) = leg < legs
IsStage legs UeTick = Unit {0}
IsStage legs (RadioUp leg) = leg < legs
IsStage legs (IubUp set leg) = (set < 8) × (leg < legs)
IsStage legs (Combine set) = set < 8

-- the stage after one, if that isn't the last one
abbrev pub next_stage : ℕ → Stage → Option Stage
next_stage legs RncTick = Some (IubDown 0 0)
next_stage legs (IubDown leg set) = if set == 7 then Some (RadioDown leg) else Some (IubDown leg (set + 1))
next_stage legs (RadioDown leg) = if nat_lt (leg + 1) legs then Some (IubDown (leg + 1) 0) else Some UeTick
next_stage legs UeTick = Some (RadioUp 0)
next_stage legs (RadioUp leg) = if nat_lt (leg + 1) legs then Some (RadioUp (leg + 1)) else Some (IubUp 0 0)
next_stage legs (IubUp set leg) = if nat_lt (leg + 1) legs then Some (IubUp set (leg + 1)) else Some (Combine set)
next_stage legs (Combine set) = if set == 7 then None else Some (IubUp (set + 1) 0)

-- how many stages are left of a radio frame, with this one
abbrev pub stages_left : ℕ → Stage → ℕ
stages_left legs RncTick = 10 + 18 * legs
stages_left legs (IubDown leg set) = 9 + 18 * legs - 9 * leg - set
stages_left legs (RadioDown leg) = 1 + 18 * legs - 9 * leg
stages_left legs UeTick = 9 + 9 * legs
stages_left legs (RadioUp leg) = 8 + 9 * legs - leg
stages_left legs (IubUp set leg) = (8 - set) * (legs + 1) - leg
stages_left legs (Combine set) = (8 - set) * (legs + 1) - legs

-- the leg that a stage is about, if it is about one
abbrev pub leg_of : Stage → Option ℕ
leg_of RncTick = None
leg_of (IubDown leg set) = Some leg
leg_of (RadioDown leg) = Some leg
leg_of UeTick = None
leg_of (RadioUp leg) = Some leg
leg_of (IubUp set leg) = Some leg
leg_of (Combine set) = None
