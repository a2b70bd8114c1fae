use Rattle.std.proofs.Common.{◌∙◌, ap}
use Rattle.dch_amrecv.specs.Places.{is_kept}
use Rattle.dch_amrecv.proofs.Ordered.{idle_is}
use Rattle.dch_amrecv.proofs.buffer.RxBuffer.has.Goals as goal

pub returns : goal.returns
returns c = c.has.ensures ∙ ap (λ k. is_kept k.places c.args.i) (idle_is c.self.inside.todo c.self.inside.window.ring c.self.inside.trim c.self.inside.units c.args.self.now.kept (ap (λ r. r.kept) c.self.view_is) c.self.invariant.1 c.requires).1
