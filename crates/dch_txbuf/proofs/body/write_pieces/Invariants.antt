use Rattle.std.proofs.Common.{◌+◌, ◌-◌, length}
use Rattle.dch_txbuf.specs.Cuts.{led_by, left_at, indicators_with}
use Rattle.dch_txbuf.proofs.Cutting.{Carries}
use Rattle.dch_txbuf.proofs.Marking.{IsPlaced}
use Rattle.dch_txbuf.proofs.body.write_pieces.Given as goal

abbrev pub invariant-loop-i : goal.invariant-loop-i
invariant-loop-i l =
    Carries l.sdus.items l.start l.fn.octets l.octets l.at l.used l.i
    × IsPlaced (indicators_with l.fn.lead (length l.fn.indicators + length l.fn.octets) l.cut (left_at l.start l.sdus.items)) (length (led_by l.fn.lead) + (l.i - l.start.sdu)) l.indicators
