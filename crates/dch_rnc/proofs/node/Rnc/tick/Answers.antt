use Rattle.std.proofs.Common.{◌≡◌, ◌+◌, ◌∙◌, List, sym, subst}
use Rattle.std.specs.Prelude.{◌%◌}
use Rattle.std.proofs.lemmas.List.{with_items_is}
use Rattle.dch_types.specs.declared.channel.Dir.TheVariants.{Down}
use Rattle.dch_layer2.specs.Layers.{ticks}
use Rattle.dch_node.specs.Standing.{Tells}
use Rattle.dch_txframes.specs.Values.{IubTxBuffer}
use Rattle.dch_rnc.specs.Opened.{IsNodeOf}
use Rattle.dch_rnc.specs.Standing.{IsAt, NothingShown, Stepped}
use Rattle.dch_rnc.specs.State.{Tick}
use Rattle.dch_rnc.specs.Values.{Node}
use Rattle.dch_rnc.specs.contracts.node.Rnc.{the_view}
use Rattle.dch_rnc.proofs.Moving.{ticked}
use Rattle.dch_rnc.proofs.Staying.{ends_through, layer_of, still_ticked, ticked_layer}
use Rattle.dch_rnc.proofs.node.Rnc.tick.Goals as goal

pub returns-clause-step : goal.returns-clause-step
returns-clause-step g c = λ state stands.
    let planned = c.args.accepted.now in
    let node : Node = the_view c.self.inside in
    let opened : IsNodeOf planned node = subst (λ (n : Node). IsNodeOf planned n) (sym c.self.view_is) c.requires.opened in
    let at : IsAt planned state node = subst (λ (n : Node). IsAt planned state n) (sym c.self.view_is) stands in
    let down : c.start.new.self.out ≡ Down = c.start.ensures.ends.sends ∙ (c.tick.ensures.ends.sends ∙ opened.sends) in
    subst (λ (tx_buffers : List IubTxBuffer). Stepped planned state Tick (record node { cfn = (c.self.inside.cfn + 1) % 256; layer = c.start.new.self; tx_buffers = tx_buffers }) (Tells g.U.Indications.shows c.args.user.now c.send_sets.new.user))
    (sym (with_items_is c.self.inside.parts.tx_buffers c.send_sets.new.tx_buffers (c.send_sets.auto.tx_buffers ∙ c.deref_mut.ensures.len)))
    (ticked g.U.Indications.shows planned state node c.start.new.self c.send_sets.new.tx_buffers c.args.user.now c.send_sets.new.user (subst (λ (n : Node). NothingShown n) (sym c.self.view_is) c.requires.quiet) at down
    (c.start.ensures.started (ticks planned.config state.layer) (c.tick.ensures.stands planned.config state.layer at.layer)) c.send_sets.ensures)

pub start-requires : goal.start-requires
start-requires g c =
    let planned = c.args.accepted.now in
    let node : Node = the_view c.self.inside in
    let opened : IsNodeOf planned node = subst (λ (n : Node). IsNodeOf planned n) (sym c.self.view_is) c.requires.opened in
    record { layer = ticks planned.config opened.layer.layer; stands = c.tick.ensures.stands planned.config opened.layer.layer opened.layer.stands }

pub send_sets-requires-clause-layer : goal.send_sets-requires-clause-layer
send_sets-requires-clause-layer g c =
    let planned = c.args.accepted.now in
    let node : Node = the_view c.self.inside in
    let opened : IsNodeOf planned node = subst (λ (n : Node). IsNodeOf planned n) (sym c.self.view_is) c.requires.opened in
    layer_of planned.config c.start.new.self (ticked_layer planned node c.tick.new.self c.start.new.self c.self.inside.cfn opened c.tick.ensures.stands c.start.ensures.started)

pub returns-clause-opened : goal.returns-clause-opened
returns-clause-opened g c =
    let planned = c.args.accepted.now in
    let node : Node = the_view c.self.inside in
    let opened : IsNodeOf planned node = subst (λ (n : Node). IsNodeOf planned n) (sym c.self.view_is) c.requires.opened in
    let new = c.start.new.self in
    subst (λ (tx_buffers : List IubTxBuffer). IsNodeOf planned (record node { cfn = (c.self.inside.cfn + 1) % 256; layer = new; tx_buffers = tx_buffers }))
    (sym (with_items_is c.self.inside.parts.tx_buffers c.send_sets.new.tx_buffers (c.send_sets.auto.tx_buffers ∙ c.deref_mut.ensures.len)))
    (still_ticked planned node ((c.self.inside.cfn + 1) % 256) new c.send_sets.new.tx_buffers opened (ends_through node.layer c.tick.new.self new c.tick.ensures.ends c.start.ensures.ends)
    (ticked_layer planned node c.tick.new.self new c.self.inside.cfn opened c.tick.ensures.stands c.start.ensures.started) c.send_sets.ensures.opened)
