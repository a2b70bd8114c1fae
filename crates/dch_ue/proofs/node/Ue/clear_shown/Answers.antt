use Rattle.std.proofs.Common.{sym, subst}
use Rattle.dch_ue.specs.Opened.{IsNodeOf}
use Rattle.dch_ue.specs.Standing.{Represents}
use Rattle.dch_ue.specs.Values.{Node}
use Rattle.dch_ue.specs.contracts.node.Ue.{the_view}
use Rattle.dch_ue.proofs.Hiding.{hidden_at, hidden_is, hidden_none}
use Rattle.dch_ue.proofs.node.Ue.clear_shown.Goals as goal

pub returns-clause-opened : goal.returns-clause-opened
returns-clause-opened c = λ planned opened.
    hidden_is planned (the_view c.self.inside) c.clear_sent.new.self c.clear_read.new.self (subst (λ (n : Node). IsNodeOf planned n) (sym c.self.view_is) opened)
    c.clear_sent.ensures c.clear_read.ensures.cleared c.clear_read.ensures.rx_frames c.clear_read.ensures.pushed

pub returns-clause-quiet : goal.returns-clause-quiet
returns-clause-quiet c = hidden_none (the_view c.self.inside) c.clear_sent.new.self c.clear_read.new.self c.clear_sent.ensures c.clear_read.ensures.cleared

pub returns-clause-stands : goal.returns-clause-stands
returns-clause-stands c = λ planned state stands.
    hidden_at planned state (the_view c.self.inside) c.clear_sent.new.self c.clear_read.new.self (subst (λ (n : Node). Represents planned state n) (sym c.self.view_is) stands).at
    c.clear_sent.ensures c.clear_read.ensures.rx_frames c.clear_read.ensures.pushed
