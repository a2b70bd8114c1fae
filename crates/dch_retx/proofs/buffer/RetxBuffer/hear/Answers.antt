use Rattle.std.proofs.Common.{◌∙◌, sym, subst}
use Rattle.dch_am.specs.Acknowledging.{after_fields}
use Rattle.dch_retx.specs.StatusItems.{said_by}
use Rattle.dch_retx.specs.RetxBuffer.{RetxBuffer}
use Rattle.dch_retx.specs.Standing.{AreKept, Stands}
use Rattle.dch_retx.proofs.Hearing.{hears}
use Rattle.dch_retx.proofs.Keeping.{hearing_kept}
use Rattle.dch_retx.proofs.Refusing.{outside_same}
use Rattle.dch_retx.proofs.buffer.RetxBuffer.hear.Goals as goal

pub returns-clause-history : goal.returns-clause-history
returns-clause-history c = λ rules s is. (
  c.answer.ensures.answer ∙ (hears rules c.args.self.now s c.args.status.now is).answer,
  subst (λ l. Stands rules l (after_fields rules s c.args.status.now)) (sym c.answer.ensures.after) (hears rules c.args.self.now s c.args.status.now is).after,
)

pub returns-clause-kept : goal.returns-clause-kept
returns-clause-kept c = subst (λ (l : RetxBuffer). AreKept c.args.self.now.in_flight l.in_flight) (sym c.answer.ensures.after) (hearing_kept (said_by c.args.status.now) c.args.self.now)

pub returns-clause-outside : goal.returns-clause-outside
returns-clause-outside c = λ other. outside_same (said_by c.args.status.now) c.args.self.now c.answer.new.self c.answer.result c.answer.ensures.answer c.answer.ensures.after other
