-- The SDU that is found is the one that the sender discards (TS 25.322 11.6).
use Rattle.std.specs.Prelude.{◌+◌, Option, Some, None}
use Rattle.dch_am.specs.Discards.{discards_at}
use Rattle.dch_am.specs.Sender.{Sender, vt_a}
use Rattle.dch_amsend.specs.DiscardStanding.{released}
use Rattle.dch_amsend.specs.declared.scan.Overdue.{Overdue}

-- the sender after that discard
abbrev pub discarded_by : Option Overdue → Sender → Sender
discarded_by None s = s
discarded_by (Some o) s = discards_at s (released s + o.sdu) (Some (vt_a s + o.place, o.indicator))
