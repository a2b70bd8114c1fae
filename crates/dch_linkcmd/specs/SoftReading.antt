-- What a line of `soft` says, as it is read.
use Rattle.std.specs.Prelude.{◌≤◌, ℕ}
use Rattle.dch_accept.specs.Plans.{Planned}
use Rattle.dch_link.specs.SoftNodes.{MayCome, event_of}
use Rattle.dch_linkcmd.specs.SoftLineEvents.{Frames, OneEvent, Said}
use Rattle.dch_linkcmd.specs.declared.soft_reading.SoftLine.{SoftLine}
use Rattle.dch_linkcmd.specs.declared.soft_reading.SoftLine.TheVariants.{Happens, Frames as Passes}

-- as plain lists
abbrev pub said_of : SoftLine → Said
said_of (Happens event) = OneEvent (event_of event)
said_of (Passes count) = Frames count

-- what may be said where there are so many legs: an event that may come, or 1 to 100,000 radio frames
abbrev pub MayBe : Planned → ℕ → SoftLine → Type 0
MayBe planned legs (Happens event) = MayCome planned legs event
MayBe planned legs (Passes count) = (1 ≤ count) × (count ≤ 100000)
