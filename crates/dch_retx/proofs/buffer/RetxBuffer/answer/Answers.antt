use Rattle.std.proofs.Common.{◌-◌, ◌∙◌, ap, sym}
use Rattle.dch_retx.specs.RetxBuffer.{listened}
use Rattle.dch_retx.specs.StatusItems.{said_by}
use Rattle.dch_retx.proofs.Bases.{heard_after, none_of}
use Rattle.dch_retx.proofs.buffer.RetxBuffer.answer.Goals as goal

pub returns-then-told-clause-after : goal.returns-then-told-clause-after
returns-then-told-clause-after c = heard_after c.args.self.now c.listen.new.self (said_by c.args.status.now) c.told-told.result c.base_after-base.result c.saturating_sub.result c.base_after-base.ensures.within c.told-told.ensures.few.0 c.told-told.ensures.few.1 c.told-told.ensures.told c.base_after-base.ensures.base (sym c.outside.ensures ∙ none_of c.outside.result c.in_default.not-Some) c.if-told.true (c.saturating_sub.ensures ∙ ap (λ k. k - c.base_after-base.result) c.unwrap_or.ensures) (c.listen.ensures ∙ ap (λ l. listened c.saturating_sub.result (said_by c.args.status.now) l) c.end.ensures)
