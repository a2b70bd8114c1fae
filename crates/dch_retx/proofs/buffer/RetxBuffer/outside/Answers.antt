use Rattle.std.proofs.Common.{arith, sym}
use Rattle.dch_retx.specs.StatusItems.{said_by}
use Rattle.dch_retx.proofs.Bases.{outside_none}
use Rattle.dch_retx.proofs.buffer.RetxBuffer.outside.Goals as goal

pub returns-then-told-base : goal.returns-then-told-base
returns-then-told-base c = sym (outside_none c.args.self.now c.args.base (said_by c.args.status.now) c.requires.base (omega (arith, c.sent_numbers-sent_numbers.ensures.few, c.sent_numbers-sent_numbers.ensures.window)) (omega (arith, c.sent_numbers-sent_numbers.ensures.range.0, c.sent_numbers-sent_numbers.ensures.window)) (omega (arith, c.requires.told.limit_is)))
