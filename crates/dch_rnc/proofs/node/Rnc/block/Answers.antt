use Rattle.std.proofs.Common.{sym, subst}
use Rattle.dch_rnc.specs.Opened.{IsNodeOf}
use Rattle.dch_rnc.specs.Standing.{IsAt, NothingShown}
use Rattle.dch_rnc.specs.Values.{Node}
use Rattle.dch_rnc.specs.contracts.node.Rnc.{the_view}
use Rattle.dch_rnc.proofs.Moving.{blocked_now, listed}
use Rattle.dch_rnc.proofs.Staying.{blocked_layer, still_layer}
use Rattle.dch_rnc.proofs.node.Rnc.block.Goals as goal

pub block-requires : goal.block-requires
block-requires c =
    listed c.args.accepted.now (the_view c.self.inside) c.args.combination (subst (λ (n : Node). IsNodeOf c.args.accepted.now n) (sym c.self.view_is) c.requires.opened) c.requires.combination

pub returns-clause-step : goal.returns-clause-step
returns-clause-step c = λ state stands.
    let planned = c.args.accepted.now in
    let node : Node = the_view c.self.inside in
    let at : IsAt planned state node = subst (λ (n : Node). IsAt planned state n) (sym c.self.view_is) stands in
    blocked_now planned state node c.block.new.self c.args.combination c.args.on (subst (λ (n : Node). NothingShown n) (sym c.self.view_is) c.requires.quiet) at
    (c.block.ensures.stands planned.config state.layer at.layer)

pub returns-clause-opened : goal.returns-clause-opened
returns-clause-opened c =
    let planned = c.args.accepted.now in
    let node : Node = the_view c.self.inside in
    let opened : IsNodeOf planned node = subst (λ (n : Node). IsNodeOf planned n) (sym c.self.view_is) c.requires.opened in
    still_layer planned node c.block.new.self opened c.block.ensures.ends (blocked_layer planned node c.block.new.self c.args.combination c.args.on opened c.block.ensures.stands)
