use Rattle.std.proofs.Common.{◌≡◌, ◌<◌, IfSome, length}
use Rattle.dch_am.specs.Moves.{move_in}
use Rattle.dch_amrecv.proofs.Latest.{latest}
use Rattle.dch_amrecv.proofs.mrw.last_move.Given as goal

abbrev pub decreases-loop-cursor : goal.decreases-loop-cursor
decreases-loop-cursor l = length l.cursor

abbrev pub invariant-loop-cursor : goal.invariant-loop-cursor
invariant-loop-cursor l = (latest l.found (move_in l.cursor) ≡ move_in l.fn.status) × IfSome l.found (λ p. (p.0 < 4096) × (p.1 < 16))
