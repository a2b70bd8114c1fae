-- What a line of `ue` says to a terminal.
use Rattle.std.specs.Prelude.{ℕ, List, Option, Some, None, true, false}
use Rattle.dch_types.specs.declared.config.Config.{Config}
use Rattle.dch_script.specs.ParsedLine.{ParsedLine, unit, block, free, phy, phy_none, tick}
use Rattle.dch_script.specs.Units.{mode_at}
use Rattle.dch_ue.specs.State.{Event, OfferedUnit, BlockedCombination, DownlinkFrame, Tick}
use Rattle.dch_lines.specs.Texts.{unit_bits, unit_octets}
use Rattle.dch_nodecmd.specs.Reading.{radio_of}

-- a unit with this text is offered to a bearer
abbrev pub unit_event : Config → ℕ → List ℕ → Event
unit_event config bearer text = OfferedUnit bearer (unit_octets (mode_at config bearer) text)
    (unit_bits (mode_at config bearer) text)

-- what a line says to a terminal, if it says anything
abbrev pub event_of : Config → ParsedLine → Option Event
event_of config (unit dir bearer text) = Some (unit_event config bearer text)
event_of config (block dir combination) = Some (BlockedCombination combination true)
event_of config (free dir combination) = Some (BlockedCombination combination false)
event_of config (phy tfci cells) = Some (DownlinkFrame (Some (radio_of tfci cells)))
event_of config phy_none = Some (DownlinkFrame None)
event_of config tick = Some Tick
event_of config parsed = None
