use Rattle.std.proofs.Common.{◌∙◌, ap, sym}
use Rattle.dch_amrecv.specs.Places.{front}
use Rattle.dch_amrecv.proofs.Seeing.{front-seen}
use Rattle.dch_amrecv.proofs.window.RxWindow.front.Goals as goal

pub returns-clause-value : goal.returns-clause-value
returns-clause-value c = c.count_front.ensures.value ∙ (sym (front-seen c.self.inside.pool c.self.inside.ring.items) ∙ ap (λ w. front w.ring.items) c.self.view_is)
