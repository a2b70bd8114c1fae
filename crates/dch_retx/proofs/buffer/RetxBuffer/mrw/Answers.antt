use Rattle.std.proofs.Common.{ap, ◌∙◌}
use Rattle.dch_retx.proofs.Ticking.{mrw_is}
use Rattle.dch_retx.proofs.buffer.RetxBuffer.mrw.Goals as goal

pub returns-clause-history : goal.returns-clause-history
returns-clause-history c = λ rules s d is e.
    let both = mrw_is rules c.args.self.now s d is e in
    (ap (λ p. p.0) c.moved_to.ensures.number ∙ both.0, ap (λ p. p.1) c.moved_to.ensures.number ∙ both.1)
