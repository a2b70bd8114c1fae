use Rattle.std.proofs.Common.{arith, sym}
use Rattle.dch_script.proofs.Values.{too_great}
use Rattle.dch_script.proofs.numbers.read_number.Goals as goal

pub returns-then-number-from-clause-value : goal.returns-then-number-from-clause-value
returns-then-number-from-clause-value c =
    sym (too_great c.args.most c.loop-c.number c.loop-c.c-index c.args.word.now (omega arith) c.loop-c.invariant.1 (omega arith))
