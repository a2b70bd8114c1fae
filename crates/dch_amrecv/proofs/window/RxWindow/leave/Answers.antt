use Rattle.std.proofs.Common.{◌∙◌, ap, drop}
use Rattle.circular_buffer.specs.Buffer.{buffer}
use Rattle.dch_amrecv.specs.Places.{with_ring}
use Rattle.dch_amrecv.proofs.Blocks.{left_kept}
use Rattle.dch_amrecv.proofs.window.RxWindow.leave.Goals as goal

pub returns : goal.returns
returns c =
    rw c.give_front.ensures.ring
    ((left_kept c.self.inside.pool c.give_front.new.pool c.self.inside.ring.items c.args.count c.self.inside.ring.capacity c.self.invariant c.give_front.ensures.left).1
    ∙ ap (λ w. with_ring (buffer (drop c.args.count w.ring.items) w.ring.capacity) w) c.self.view_is)
