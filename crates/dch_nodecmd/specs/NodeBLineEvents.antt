-- What a line of `nodeb` says to a Node B.
use Rattle.std.specs.Prelude.{Option, Some, None}
use Rattle.dch_script.specs.ParsedLine.{ParsedLine, iub, down, phy, phy_none}
use Rattle.dch_nodeb.specs.State.{Event, IubFrame, DownlinkDue, UplinkFrame}
use Rattle.dch_lines.specs.Texts.{octets_of}
use Rattle.dch_nodecmd.specs.Reading.{radio_of}

-- what a line says to a Node B, if it says anything
abbrev pub event_of : ParsedLine → Option Event
event_of (iub set hex) = Some (IubFrame set (octets_of hex))
event_of down = Some DownlinkDue
event_of (phy tfci cells) = Some (UplinkFrame (Some (radio_of tfci cells)))
event_of phy_none = Some (UplinkFrame None)
event_of parsed = None
