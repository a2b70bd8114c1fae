use Rattle.std.proofs.Common.{◌∙◌, ap, length, sym}
use Rattle.std.specs.Prelude.{◌==◌}
use Rattle.dch_amrecv.proofs.Ordered.{settled_same}
use Rattle.dch_amrecv.proofs.buffer.RxBuffer.settled.Goals as goal

pub returns : goal.returns
returns c =
    c.settled.ensures
    ∙ (sym (settled_same c.self.inside.todo c.self.inside.window.ring c.self.inside.trim c.self.inside.units c.self.invariant.1)
    ∙ ap (λ k. length k.kept.units.waiting == 0) c.self.view_is)
