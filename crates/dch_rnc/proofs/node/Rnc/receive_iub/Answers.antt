use Rattle.std.proofs.Common.{◌∙◌, List, Some, sym, subst}
use Rattle.std.proofs.lemmas.List.{with_items_is}
use Rattle.dch_config.specs.Good.{IsGood}
use Rattle.dch_accept.specs.HeldSets.{HeldSet}
use Rattle.dch_node.specs.Standing.{Tells}
use Rattle.dch_rnc.specs.Opened.{IsNodeOf}
use Rattle.dch_rnc.specs.Standing.{IsAt, NothingShown, Stepped}
use Rattle.dch_rnc.specs.State.{IubFrame}
use Rattle.dch_rnc.specs.Values.{Node, rx_set_at}
use Rattle.dch_rnc.specs.contracts.node.Rnc.{the_view}
use Rattle.dch_rnc.proofs.Moving.{refused, taken}
use Rattle.dch_rnc.proofs.Staying.{still_received, taken_layer}
use Rattle.dch_rnc.proofs.node.Rnc.receive_iub.Goals as goal

pub returns-then-receive-clause-opened : goal.returns-then-receive-clause-opened
returns-then-receive-clause-opened g c =
    let planned = c.args.accepted.now in
    let node : Node = the_view c.self.inside in
    let opened : IsNodeOf planned node = subst (λ (n : Node). IsNodeOf planned n) (sym c.self.view_is) c.requires.opened in
    let held : HeldSet = rx_set_at c.receive.new.rx_sets c.args.set in
    subst (λ (rx_sets : List HeldSet). IsNodeOf planned (record node { layer = c.receive.new.layer; rx_sets = rx_sets; read = Some c.args.set }))
    (sym (with_items_is c.self.inside.parts.rx_sets c.receive.new.rx_sets (c.receive.auto.rx_sets ∙ c.deref_mut.ensures.len)))
    (still_received planned node c.receive.new.layer c.receive.new.rx_sets (Some c.args.set) opened c.if-receive.ensures.answers.takes.ends
    (taken_layer g.U.Indications.shows planned c.args.set held node.layer c.receive.new.layer c.args.user.now c.receive.new.user (subst IsGood c.config-config.ensures.value c.config-config.ensures.good)
    (c.receive.ensures.opened.each c.args.set c.receive.ensures.few) opened.layer c.if-receive.ensures.answers.takes) c.receive.ensures.opened)

pub returns-then-receive-clause-step : goal.returns-then-receive-clause-step
returns-then-receive-clause-step g c = λ state stands.
    let planned = c.args.accepted.now in
    let node : Node = the_view c.self.inside in
    let opened : IsNodeOf planned node = subst (λ (n : Node). IsNodeOf planned n) (sym c.self.view_is) c.requires.opened in
    let at : IsAt planned state node = subst (λ (n : Node). IsAt planned state n) (sym c.self.view_is) stands in
    subst (λ (rx_sets : List HeldSet). Stepped planned state (IubFrame c.args.set c.args.frame.now) (record node { layer = c.receive.new.layer; rx_sets = rx_sets; read = Some c.args.set }) (Tells g.U.Indications.shows c.args.user.now c.receive.new.user))
    (sym (with_items_is c.self.inside.parts.rx_sets c.receive.new.rx_sets (c.receive.auto.rx_sets ∙ c.deref_mut.ensures.len)))
    (taken g.U.Indications.shows planned state node c.receive.new.layer c.receive.new.rx_sets c.args.set c.args.frame.now c.args.user.now c.receive.new.user (subst (λ (n : Node). NothingShown n) (sym c.self.view_is) c.requires.quiet) at opened.channel_sets
    c.if-receive.ensures.answers)

pub returns-else-receive-clause-step : goal.returns-else-receive-clause-step
returns-else-receive-clause-step g c = λ state stands.
    let planned = c.args.accepted.now in
    let node : Node = the_view c.self.inside in
    let at : IsAt planned state node = subst (λ (n : Node). IsAt planned state n) (sym c.self.view_is) stands in
    refused g.U.Indications.shows planned state node c.receive.new.layer _ c.args.set c.args.frame.now c.args.user.now c.receive.new.user (subst (λ (n : Node). NothingShown n) (sym c.self.view_is) c.requires.quiet) at c.if-receive.ensures.answers
