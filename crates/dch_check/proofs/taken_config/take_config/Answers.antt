use Rattle.std.proofs.Common.{◌≡◌, ◌≤◌, length, take, arith, sym}
use Rattle.std.proofs.lemmas.List.{length-take-le}
use Rattle.dch_check.proofs.Taking.{config_completed, config_ended, gathers_piece, lacks_in_config, too_long_config}
use Rattle.dch_check.proofs.taken_config.take_config.Goals as goal
use Rattle.dch_check.proofs.taken_config.take_config.Goals.{then-is_complete-via-then-is_complete, then-is_complete-via-else-is_complete+then-read-eq0}

pub returns-in-Err-TooLong : goal.returns-in-Err-TooLong
returns-in-Err-TooLong g c = too_long_config _ _ _ _ _ _ c.pieces.count c.pieces.section c.read_next.new.room c.pieces.invariant (rw c.in-Err-TooLong.field-0-is at c.in-Err-TooLong.ensures.reads)

pub returns-in-Err : goal.returns-in-Err
returns-in-Err g c = lacks_in_config _ _ _ _ _ _ c.pieces.count c.pieces.section (take c.in-Ok.read c.read_next.new.room) c.pieces.invariant c.in-Ok.ensures.reads.0

pub returns-then-is_complete : goal.returns-then-is_complete
returns-then-is_complete g c =
    let ordered : c.in-Ok-gather.from ≤ c.in-Ok.read = omega (arith, c.in-Ok-gather.ensures.inside, length-take-le c.in-Ok.read c.read_next.new.room c.in-Ok.ensures.reads.1) in
    elim c.then-is_complete.branch [
      | then-is_complete-via-then-is_complete w ↦ config_completed _ _ _ _ _ _ c.pieces.count c.in-Ok.read c.in-Ok-gather.from c.pieces.section c.gather.new.section c.read_next.new.room c.read_next.ensures.later c.pieces.invariant c.in-Ok.ensures.reads.0 c.in-Ok.ensures.reads.1 c.in-Ok-gather.ensures.section ordered c.in-Ok-gather.ensures.behind (sym w.if-is_complete.ensures)
      | then-is_complete-via-else-is_complete+then-read-eq0 w ↦ config_ended _ _ _ _ _ _ c.pieces.count c.in-Ok.read c.in-Ok-gather.from c.pieces.section c.gather.new.section c.read_next.new.room c.read_next.ensures.later c.pieces.invariant c.in-Ok.ensures.reads.0 c.in-Ok.ensures.reads.1 c.in-Ok-gather.ensures.section ordered w.if-read-eq0.true
    ]

pub pieces-preserved : goal.pieces-preserved
pieces-preserved g c =
    let long : length (take c.in-Ok.read c.read_next.new.room) ≡ c.in-Ok.read = length-take-le c.in-Ok.read c.read_next.new.room c.in-Ok.ensures.reads.1 in
    rw (← long) (gathers_piece _ _ _ _ _ _ c.pieces.count c.pieces.section c.gather.new.section (take c.in-Ok.read c.read_next.new.room) c.read_next.ensures.later c.pieces.invariant c.in-Ok.ensures.reads.0 c.in-Ok-gather.ensures.section (sym c.if-is_complete.ensures))
