use Rattle.std.proofs.Common.{sym, subst}
use Rattle.dch_am.specs.Sender.{vt_a}
use Rattle.dch_am.specs.Discards.{discards_at}
use Rattle.std.proofs.Common.{Some, ◌+◌}
use Rattle.dch_retx.specs.Standing.{Stands}
use Rattle.dch_retx.proofs.Ticking.{discards_stand}
use Rattle.dch_retx.proofs.buffer.RetxBuffer.discard.Goals as goal

pub returns-clause-history : goal.returns-clause-history
returns-clause-history c = λ rules s i is. subst (λ l. Stands rules l (discards_at s i (Some (vt_a s + c.args.place, c.args.n)))) (sym c.begins.ensures.after) (discards_stand rules c.args.self.now s c.args.place c.args.n i c.requires.inside is)
