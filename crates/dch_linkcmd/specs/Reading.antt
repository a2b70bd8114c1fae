-- What a line of `link` says, as it is read.
use Rattle.std.specs.Prelude.{◌≤◌}
use Rattle.dch_accept.specs.Plans.{Planned}
use Rattle.dch_link.specs.LinkNodes.{MayCome, event_of}
use Rattle.dch_linkcmd.specs.LineEvents.{Frames, OneEvent, Said}
use Rattle.dch_linkcmd.specs.declared.reading.LinkLine.{LinkLine}
use Rattle.dch_linkcmd.specs.declared.reading.LinkLine.TheVariants.{Happens, Frames as Passes}

-- as plain lists
abbrev pub said_of : LinkLine → Said
said_of (Happens event) = OneEvent (event_of event)
said_of (Passes count) = Frames count

-- what may be said: an event that may come, or 1 to 100,000 radio frames
abbrev pub MayBe : Planned → LinkLine → Type 0
MayBe planned (Happens event) = MayCome planned event
MayBe planned (Passes count) = (1 ≤ count) × (count ≤ 100000)
