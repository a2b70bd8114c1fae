use Rattle.std.proofs.Common.{sym, subst}
use Rattle.dch_am.specs.Discards.{after_mrw}
use Rattle.dch_retx.specs.Standing.{Stands}
use Rattle.dch_retx.proofs.Ticking.{moves_stand}
use Rattle.dch_retx.proofs.buffer.RetxBuffer.write_mrw.Goals as goal

pub returns-clause-history : goal.returns-clause-history
returns-clause-history c = λ rules s d is e. subst (λ l. Stands rules l (after_mrw rules s d)) (sym c.repeats.ensures.after) (moves_stand rules c.args.self.now s d is e)
