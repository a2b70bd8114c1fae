-- One more number at the end.
use Rattle.std.proofs.Common.{sym, ◌∙◌, add-one, zero-add}
use Rattle.dch_pool.proofs.Flags.{range_with_len-more}
use Rattle.dch_pool.proofs.parts.numbers.Goals as goal

pub loop-number-preserved : goal.loop-number-preserved
loop-number-preserved c =
    let number = c.loop-number.number in
    let more = rw (zero-add number, ← c.loop-number.invariant) at (range_with_len-more 0 number) in
    rw add-one (c.in-Ok.ensures.items ∙ sym more)
