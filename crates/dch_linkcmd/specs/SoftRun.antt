-- A run of the command `soft`: what is known between two lines, and between two stages of a radio frame.
use Rattle.std.specs.Prelude.{◌+◌, ◌-◌, ◌*◌, ◌==◌, ℕ, Bool, Option, Some, None, if◌then◌else◌}
use Rattle.dch_types.specs.declared.config.Config.{Config}
use Rattle.dch_accept.specs.Plans.{Planned}
use Rattle.dch_link.specs.SoftPassing.{next_stage, stages_left}
use Rattle.dch_link.specs.Soft.{SoftState, active, framed, opened_soft}
use Rattle.dch_link.specs.declared.soft_stage.Stage.{Stage}
use Rattle.dch_link.specs.declared.soft_stage.Stage.TheVariants.{RncTick}

-- the nodes and the damage, the CFN of the first radio frame, and whether the lines of frames are left out; the next
-- stage of a radio frame, how many radio frames are left of a line, with the one that is on, and how many have passed
pub record Run : Type 0 where
  pub soft : SoftState
  pub first : ℕ
  pub quiet : Bool
  pub stage : Stage
  pub left : ℕ
  pub frames : ℕ

-- before the first line
abbrev pub opened_run : Planned → ℕ → ℕ → Bool → Run
opened_run planned first legs quiet = record {
  soft = opened_soft planned first legs;
  first = first;
  quiet = quiet;
  stage = RncTick;
  left = 0;
  frames = 0;
}

-- the configuration that is active
abbrev pub config_of : Run → Config
config_of run = (active run.soft).config

-- after the last stage of a radio frame no damage waits any more, and the first stage of the next one comes
abbrev pub passed_by : Run → SoftState → Option Stage → Run
passed_by run soft (Some stage) = record run { soft = soft; stage = stage }
passed_by run soft None = record run {
  soft = framed soft;
  stage = RncTick;
  left = run.left - 1;
  frames = run.frames + 1;
}

abbrev pub passed : Run → SoftState → Run
passed run soft = passed_by run soft (next_stage run.soft.count run.stage)

-- how many stages are left of a line where there are so many legs
abbrev pub steps_left : ℕ → Stage → ℕ → ℕ
steps_left legs stage left = if left == 0 then 0 else (10 + 18 * legs) * (left - 1) + stages_left legs stage
