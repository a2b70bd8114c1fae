-- How a PDU is read behind those before it (TS 25.322 11.3.3, 11.6.3).
use Rattle.std.specs.Prelude.{ℕ, List, [], ◌∷◌, Option, Some, None, drop}
use Rattle.dch_am.specs.Bodies.{Body}
use Rattle.dch_am.specs.Receiver.{dead_pieces}
use Rattle.dch_sar.specs.Taking.{Waiting, added, dropped, ended, took_full}

-- each piece ends a unit
abbrev pub took_pieces : List (List ℕ) → Waiting → Waiting
took_pieces [] u = u
took_pieces (p ∷ ps) u = took_pieces ps (ended (added p u))

-- a PDU is read, where indicators up to this place end no unit and octets before the last of them are dropped
abbrev pub took_one : Option ℕ → Body → Waiting → Waiting
took_one None b u = added b.rest (took_pieces b.pieces (took_full b.full u))
took_one (Some n) b u = added b.rest (took_pieces (drop (dead_pieces n b) b.pieces) (dropped u))
