-- When what a running sender keeps stands for all that happened at it since opening (TS 25.322 9.4).
use Rattle.std.specs.Prelude.{List}
use Rattle.dch_am.specs.Rules.{Rules}
use Rattle.dch_am.specs.SenderHistory.{SenderEvent, sender_after}
use Rattle.dch_amsend.specs.Standing.{Sending, Stands, room_in}

-- a sending side that runs stands for the sender at which these events happened since opening
abbrev pub IsSenderOf : Rules → List SenderEvent → Sending → Type 0
IsSenderOf rules events v = Stands rules v (sender_after rules (room_in v) events)
