-- Events at an end within one part of a run: all but a change of the configuration.
use Rattle.dch_ue.specs.State.{BlockedCombination as UeBlocked, Change as UeChange, DownlinkFrame, Event as UeEvent, OfferedUnit as UeOffered, Tick as UeTicks}
use Rattle.dch_rnc.specs.State.{BlockedCombination as RncBlocked, Change as RncChange, Event as RncEvent, IubFrame, OfferedUnit as RncOffered, Tick as RncTicks}

-- at the terminal
abbrev pub UeWithin : UeEvent → Type 0
UeWithin (UeOffered b octets bits) = Unit {0}
UeWithin (UeBlocked c on) = Unit {0}
UeWithin (DownlinkFrame frame) = Unit {0}
UeWithin UeTicks = Unit {0}
UeWithin (UeChange planned) = ⊥

-- at the network controller
abbrev pub RncWithin : RncEvent → Type 0
RncWithin (RncOffered b octets bits) = Unit {0}
RncWithin (RncBlocked c on) = Unit {0}
RncWithin (IubFrame set octets) = Unit {0}
RncWithin RncTicks = Unit {0}
RncWithin (RncChange planned) = ⊥
