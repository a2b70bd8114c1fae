-- A run of the command `link`: what is known between two lines, and between two stages of a radio frame.
use Rattle.std.specs.Prelude.{◌+◌, ◌-◌, ◌*◌, ◌==◌, ℕ, [], Bool, Option, Some, None, if◌then◌else◌}
use Rattle.dch_types.specs.declared.config.Config.{Config}
use Rattle.dch_accept.specs.Plans.{Planned}
use Rattle.dch_link.specs.Link.{LinkState, active, opened_link}
use Rattle.dch_link.specs.Passing.{next_stage, stages_left}
use Rattle.dch_link.specs.declared.stage.Stage.{Stage}
use Rattle.dch_link.specs.declared.stage.Stage.TheVariants.{RncTick}
use Rattle.dch_lines.specs.declared.later.Later.{Later}

-- the nodes and the damage, the configuration of their opening and the CFN of the first radio frame, the second
-- configuration where one is still to come, and whether the lines of frames are left out; the next stage of a radio
-- frame, how many radio frames are left of a line, with the one that is on, and how many have passed
pub record Run : Type 0 where
  pub link : LinkState
  pub began : Planned
  pub first : ℕ
  pub second : Option Later
  pub quiet : Bool
  pub stage : Stage
  pub left : ℕ
  pub frames : ℕ

-- before the first line
abbrev pub opened_run : Planned → Option Later → ℕ → Bool → Run
opened_run began second first quiet = record {
  link = opened_link began first;
  began = began;
  first = first;
  second = second;
  quiet = quiet;
  stage = RncTick;
  left = 0;
  frames = 0;
}

-- the configuration that is active
abbrev pub config_of : Run → Config
config_of run = (active run.link).config

-- after the last stage of a radio frame no damage waits any more, and the first stage of the next one comes
abbrev pub passed_by : Run → LinkState → Option Stage → Run
passed_by run link (Some stage) = record run { link = link; stage = stage }
passed_by run link None = record run {
  link = record link { damage = [] };
  stage = RncTick;
  left = run.left - 1;
  frames = run.frames + 1;
}

abbrev pub passed : Run → LinkState → Run
passed run link = passed_by run link (next_stage run.stage)

-- how many stages are left of a line
abbrev pub steps_left : Stage → ℕ → ℕ
steps_left stage left = if left == 0 then 0 else 20 * (left - 1) + stages_left stage
