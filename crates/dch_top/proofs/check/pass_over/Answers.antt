use Rattle.std.proofs.Common.{◌≡◌, length, take}
use Rattle.std.proofs.lemmas.List.{length-take-le}
use Rattle.dch_top.proofs.Judging.{passes_limit, passes_piece}
use Rattle.dch_top.proofs.check.pass_over.Goals as goal

pub returns-in-Err-TooLong-clause-passes : goal.returns-in-Err-TooLong-clause-passes
returns-in-Err-TooLong-clause-passes g c = passes_limit _ _ _ _ _ _ c.args.count c.pieces.count c.read_next.new.room c.pieces.invariant (rw c.in-Err-TooLong.field-0-is at c.in-Err-TooLong.ensures.reads)

pub pieces-preserved : goal.pieces-preserved
pieces-preserved g c =
    let long : length (take c.in-Ok.read c.read_next.new.room) ≡ c.in-Ok.read = length-take-le c.in-Ok.read c.read_next.new.room c.in-Ok.ensures.reads.1 in
    rw (← long) (passes_piece _ _ _ _ _ _ c.args.count c.pieces.count (take c.in-Ok.read c.read_next.new.room) c.read_next.ensures.later c.pieces.invariant c.in-Ok.ensures.reads.0)
