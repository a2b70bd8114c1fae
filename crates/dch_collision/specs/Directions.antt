-- A direction of a configuration with the plans of its rate matching, of which the search looks at each format.
use Rattle.dch_types.specs.declared.channel.Side.{Side}
use Rattle.dch_types.specs.Limits.{IsDownlink, IsUplink}
use Rattle.dch_frame.specs.Downlinks.{IsDownlinkPlan}
use Rattle.dch_collision.specs.Copies.{downlink_copies, uplink_copies}
use Rattle.dch_collision.specs.Plans.{AreAllPlans}
use Rattle.dch_collision.specs.declared.direction.Direction.{Direction}
use Rattle.dch_collision.specs.declared.direction.Direction.TheVariants.{Up, Down}
use Rattle.dch_collision.specs.Clear.{Copies}

-- its channels and combinations
abbrev pub side_in : Direction → Side
side_in (Up config plans) = config.now.side
side_in (Down config plan) = config.now.side

-- how often the coded bits of its channels are sent
abbrev pub copies_in : Direction → Copies
copies_in (Up config plans) = uplink_copies config.now
copies_in (Down config plan) = downlink_copies config.now

-- it keeps its limits, and the plans are its own
abbrev pub IsPlanned : Direction → Type 0
IsPlanned (Up config plans) = IsUplink config.now × AreAllPlans config.now plans.now
IsPlanned (Down config plan) = IsDownlink config.now × IsDownlinkPlan config.now plan.now
