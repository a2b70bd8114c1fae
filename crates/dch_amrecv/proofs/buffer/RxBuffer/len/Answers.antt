use Rattle.std.proofs.Common.{arith}
use Rattle.dch_amrecv.proofs.Fronts.{front_le}
use Rattle.dch_amrecv.proofs.buffer.RxBuffer.len.Goals as goal

pub overflow_sub-result : goal.overflow_sub-result
overflow_sub-result c = omega (arith, c.self.invariant.0, front_le c.self.inside.window.ring.items, c.len.ensures.count)
