use Rattle.std.proofs.Common.{sym, subst}
use Rattle.dch_txframes.specs.Lending.{radio_of}
use Rattle.dch_ue.specs.Opened.{IsNodeOf}
use Rattle.dch_ue.specs.Standing.{IsAt, NothingShown}
use Rattle.dch_ue.specs.Values.{Node}
use Rattle.dch_ue.specs.contracts.node.Ue.{the_view}
use Rattle.dch_ue.proofs.Moving.{came}
use Rattle.dch_ue.proofs.Staying.{still_came}
use Rattle.dch_ue.proofs.node.Ue.receive_radio.Goals as goal

pub push-requires-clause-opened : goal.push-requires-clause-opened
push-requires-clause-opened c = (subst (λ (n : Node). IsNodeOf c.args.accepted.now n) (sym c.self.view_is) c.requires.opened).receiver

pub returns-clause-opened : goal.returns-clause-opened
returns-clause-opened c =
    let planned = c.args.accepted.now in
    let node : Node = the_view c.self.inside in
    let opened : IsNodeOf planned node = subst (λ (n : Node). IsNodeOf planned n) (sym c.self.view_is) c.requires.opened in
    still_came planned node c.push.new.self opened c.push.ensures.opened c.push.ensures.hears.last

pub returns-clause-step : goal.returns-clause-step
returns-clause-step c = λ state stands.
    let planned = c.args.accepted.now in
    let node : Node = the_view c.self.inside in
    came planned state node c.push.new.self (radio_of c.args.frame) (subst (λ (n : Node). NothingShown n) (sym c.self.view_is) c.requires.quiet) (subst (λ (n : Node). IsAt planned state n) (sym c.self.view_is) stands) c.push.ensures
