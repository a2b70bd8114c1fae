-- The nodes of a soft handover that run together, and what is known of the frames between them.
use Rattle.std.specs.Prelude.{◌+◌, ◌%◌, ◌==◌, ◌&&◌, ℕ, Option, Some, None, if◌then◌else◌}
use Rattle.dch_types.specs.declared.channel.Side.{Side}
use Rattle.dch_types.specs.Timing.{ends, set_frames, started}
use Rattle.dch_accept.specs.Plans.{Planned}
use Rattle.dch_combine.specs.Legs.{LegFrame}
use Rattle.dch_ue.specs.State.{Event as UeEvent, State as UeState, opened_state as opened_ue}
use Rattle.dch_rnc.specs.State.{Event as RncEvent, State as RncState, opened_state as opened_rnc}
use Rattle.dch_link.specs.Courses.{Course, opened_course}
use Rattle.dch_link.specs.Legs.{LegState, opened_leg, undamaged}

-- what happened at the terminal and the network controller; how many legs there are, and what is known of each; the
-- uplink Iub frames that were taken for a set from a leg, to be combined; and the CFN of the radio frame that is on
pub record SoftState : Type 0 where
  pub ue : Course UeState UeEvent
  pub rnc : Course RncState RncEvent
  pub count : ℕ
  pub legs : ℕ → LegState
  pub frames : ℕ → ℕ → Option LegFrame
  pub cfn : ℕ

-- at opening each node is as it is opened
abbrev pub opened_soft : Planned → ℕ → ℕ → SoftState
opened_soft planned first count = record {
  ue = opened_course (opened_ue planned first);
  rnc = opened_course (opened_rnc planned first);
  count = count;
  legs = λ k. opened_leg planned first;
  frames = λ s k. None;
  cfn = first;
}

-- the configuration that is active
abbrev pub active : SoftState → Planned
active soft = soft.rnc.state.planned

abbrev pub uplink_of : SoftState → Side
uplink_of soft = (active soft).config.uplink.side

-- leg k is another one
abbrev pub with_leg : SoftState → ℕ → LegState → SoftState
with_leg soft k leg = record soft { legs = λ j. if j == k then leg else soft.legs j }

-- a frame was taken for a set from leg k
abbrev pub with_frame : SoftState → ℕ → ℕ → LegFrame → SoftState
with_frame soft set k frame = record soft {
  frames = λ s j. if (s == set) && (j == k) then Some frame
      else soft.frames s j;
}

-- the frames of a set were given
abbrev pub given : SoftState → ℕ → SoftState
given soft set = record soft { frames = λ s k. if s == set then None else soft.frames s k }

-- a radio frame is over: no damage waits any more, and the CFN goes on
abbrev pub framed : SoftState → SoftState
framed soft = record soft { legs = λ k. undamaged (soft.legs k); cfn = (soft.cfn + 1) % 256 }

-- the CFN at which the TTI of a set started, where it ends with the radio frame of a CFN
abbrev pub over : Side → ℕ → ℕ → Option ℕ
over side set cfn = if ends (set_frames side set) cfn then Some (started (set_frames side set) cfn) else None
