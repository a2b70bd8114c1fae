use Rattle.std.proofs.Common.{sym, subst}
use Rattle.dch_retx.specs.Standing.{Stands, timed}
use Rattle.dch_retx.proofs.Ticking.{ticks_stand}
use Rattle.dch_retx.proofs.buffer.RetxBuffer.tick.Goals as goal

pub returns-clause-history : goal.returns-clause-history
returns-clause-history c = λ rules s is. subst (λ l. Stands rules l (timed s)) (sym c.ticks.ensures.after) (ticks_stand rules c.args.self.now s is)
