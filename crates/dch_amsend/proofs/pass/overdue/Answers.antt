use Rattle.std.proofs.Common.{◌∙◌, ap, sym, subst, length}
use Rattle.std.specs.Prelude.{IfSome}
use Rattle.dch_am.specs.Discards.{discards}
use Rattle.dch_am.specs.Rules.{Rules}
use Rattle.dch_amsend.specs.DiscardStanding.{DiscardStands}
use Rattle.dch_retx.specs.Standing.{Stands as LineStands}
use Rattle.dch_amsend.specs.Discarding.{discarded_by}
use Rattle.dch_amsend.proofs.Within.{IsWithin, overdue_within}
use Rattle.dch_amsend.proofs.Finding.{overdue_is}
use Rattle.dch_amsend.proofs.pass.overdue.Goals as goal

pub returns-clause-within : goal.returns-clause-within
returns-clause-within c = subst (λ o. IfSome o (IsWithin c.args.held.now (length c.args.outgoing.now.line.in_flight))) (sym c.last.ensures.value) (overdue_within c.args.rules.now c.args.held.now c.args.outgoing.now.line.in_flight)

pub returns-clause-history : goal.returns-clause-history
returns-clause-history c = λ r buffer d s e stands holds cut has. ap (λ (x : Rules). discards x s (length s.accepted)) e ∙ (overdue_is buffer d c.args.rules.now c.args.outgoing.now.line c.args.held.now s c.last.ensures.small.0 c.last.ensures.small.1 (subst (λ (x : Rules). LineStands x c.args.outgoing.now.line s) e stands) (subst (λ (x : Rules). DiscardStands x c.args.held.now s) e holds) cut has ∙ ap (λ o. discarded_by o s) (sym c.last.ensures.value))
