use Rattle.std.proofs.Common.{◌∙◌, ap, sym}
use Rattle.dch_amrecv.specs.Places.{is_kept}
use Rattle.dch_amrecv.proofs.Seeing.{is_kept-seen}
use Rattle.dch_amrecv.proofs.window.RxWindow.has.Goals as goal

pub returns : goal.returns
returns c = c.is_taken.ensures ∙ (sym (is_kept-seen c.self.inside.pool c.self.inside.ring.items c.args.i) ∙ ap (λ w. is_kept w.ring.items c.args.i) c.self.view_is)
