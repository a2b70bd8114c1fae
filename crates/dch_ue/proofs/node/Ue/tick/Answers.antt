use Rattle.std.proofs.Common.{◌≡◌, ◌+◌, ◌∙◌, sym, subst}
use Rattle.std.specs.Prelude.{◌%◌}
use Rattle.dch_types.specs.declared.channel.Dir.TheVariants.{Up}
use Rattle.dch_config.specs.Good.{IsGood}
use Rattle.dch_layer2.specs.Layers.{ticks}
use Rattle.dch_layer2.specs.Bounded.{HasLayer}
use Rattle.dch_ue.specs.Opened.{IsNodeOf}
use Rattle.dch_ue.specs.Standing.{IsAt, NothingShown}
use Rattle.dch_ue.specs.Steps.{has_read}
use Rattle.dch_ue.specs.Values.{Node, readings_of}
use Rattle.dch_ue.specs.contracts.node.Ue.{the_view}
use Rattle.dch_ue.proofs.Staying.{ends_through, given_start, layer_of, noted_start, read_has, started_layer, still_ticked, ticked_layer}
use Rattle.dch_ue.proofs.Stepping.{ticked_limited}
use Rattle.dch_ue.proofs.Ticking.{ticked}
use Rattle.dch_ue.proofs.node.Ue.tick.Goals as goal

pub receive-requires-clause-opened : goal.receive-requires-clause-opened
receive-requires-clause-opened g c = (subst (λ (n : Node). IsNodeOf c.args.accepted.now n) (sym c.self.view_is) c.requires.opened).receiver

pub receive-requires-clause-quiet : goal.receive-requires-clause-quiet
receive-requires-clause-quiet g c = (subst (λ (n : Node). NothingShown n) (sym c.self.view_is) c.requires.quiet).read

pub receive-requires-clause-last : goal.receive-requires-clause-last
receive-requires-clause-last g c = (subst (λ (n : Node). IsNodeOf c.args.accepted.now n) (sym c.self.view_is) c.requires.opened).last

pub receive-requires-clause-layer : goal.receive-requires-clause-layer
receive-requires-clause-layer g c =
    let node : Node = the_view c.self.inside in
    layer_of c.args.accepted.now.config c.tick.new.self
    (ticked_layer c.args.accepted.now node c.tick.new.self (subst (λ (n : Node). IsNodeOf c.args.accepted.now n) (sym c.self.view_is) c.requires.opened) c.tick.ensures.stands)

pub receive-requires-clause-receives : goal.receive-requires-clause-receives
receive-requires-clause-receives g c = c.tick.ensures.ends.receives ∙ (subst (λ (n : Node). IsNodeOf c.args.accepted.now n) (sym c.self.view_is) c.requires.opened).receives

pub start-requires : goal.start-requires
start-requires g c =
    let planned = c.args.accepted.now in
    let node : Node = the_view c.self.inside in
    let opened : IsNodeOf planned node = subst (λ (n : Node). IsNodeOf planned n) (sym c.self.view_is) c.requires.opened in
    let good : IsGood planned.config = subst IsGood c.config-config.ensures.value c.config-config.ensures.good in
    layer_of planned.config c.receive.new.layer
    (read_has g.U.Indications.shows planned node.cfn node.receiver c.receive.new.self c.tick.new.self c.receive.new.layer c.args.user.now c.receive.new.user good (ticked_layer planned node c.tick.new.self opened c.tick.ensures.stands) c.receive.ensures)

pub transmit-requires-clause-opened : goal.transmit-requires-clause-opened
transmit-requires-clause-opened g c = (subst (λ (n : Node). IsNodeOf c.args.accepted.now n) (sym c.self.view_is) c.requires.opened).transmitter

pub transmit-requires-clause-layer : goal.transmit-requires-clause-layer
transmit-requires-clause-layer g c =
    let planned = c.args.accepted.now in
    let node : Node = the_view c.self.inside in
    let opened : IsNodeOf planned node = subst (λ (n : Node). IsNodeOf planned n) (sym c.self.view_is) c.requires.opened in
    let good : IsGood planned.config = subst IsGood c.config-config.ensures.value c.config-config.ensures.good in
    let has : HasLayer planned.config c.receive.new.layer =
    read_has g.U.Indications.shows planned node.cfn node.receiver c.receive.new.self c.tick.new.self c.receive.new.layer c.args.user.now c.receive.new.user good (ticked_layer planned node c.tick.new.self opened c.tick.ensures.stands) c.receive.ensures in
    layer_of planned.config c.start.new.self (started_layer planned node.cfn c.receive.new.layer c.start.new.self has c.start.ensures.started)

pub transmit-requires-clause-sends : goal.transmit-requires-clause-sends
transmit-requires-clause-sends g c =
    c.start.ensures.ends.sends ∙ (c.receive.ensures.reads.read.ends.sends ∙ (c.tick.ensures.ends.sends ∙ (subst (λ (n : Node). IsNodeOf c.args.accepted.now n) (sym c.self.view_is) c.requires.opened).sends))

pub transmit-requires-clause-given : goal.transmit-requires-clause-given
transmit-requires-clause-given g c =
    let planned = c.args.accepted.now in
    let node : Node = the_view c.self.inside in
    let opened : IsNodeOf planned node = subst (λ (n : Node). IsNodeOf planned n) (sym c.self.view_is) c.requires.opened in
    let good : IsGood planned.config = subst IsGood c.config-config.ensures.value c.config-config.ensures.good in
    let up : c.start.new.self.out ≡ Up = c.start.ensures.ends.sends ∙ (c.receive.ensures.reads.read.ends.sends ∙ (c.tick.ensures.ends.sends ∙ opened.sends)) in
    let has : HasLayer planned.config c.receive.new.layer =
    read_has g.U.Indications.shows planned node.cfn node.receiver c.receive.new.self c.tick.new.self c.receive.new.layer c.args.user.now c.receive.new.user good (ticked_layer planned node c.tick.new.self opened c.tick.ensures.stands) c.receive.ensures in
    given_start planned node.cfn c.receive.new.layer c.start.new.self has up c.start.ensures.started

pub transmit-requires-clause-noted : goal.transmit-requires-clause-noted
transmit-requires-clause-noted g c =
    let planned = c.args.accepted.now in
    let node : Node = the_view c.self.inside in
    let opened : IsNodeOf planned node = subst (λ (n : Node). IsNodeOf planned n) (sym c.self.view_is) c.requires.opened in
    let up : c.start.new.self.out ≡ Up = c.start.ensures.ends.sends ∙ (c.receive.ensures.reads.read.ends.sends ∙ (c.tick.ensures.ends.sends ∙ opened.sends)) in
    noted_start g.U.Indications.shows planned node c.tick.new.self c.receive.new.layer c.start.new.self c.receive.new.self c.args.user.now c.receive.new.user opened up c.tick.ensures.stands c.receive.ensures c.start.ensures.started

pub returns-clause-opened : goal.returns-clause-opened
returns-clause-opened g c =
    let planned = c.args.accepted.now in
    let node : Node = the_view c.self.inside in
    let opened : IsNodeOf planned node = subst (λ (n : Node). IsNodeOf planned n) (sym c.self.view_is) c.requires.opened in
    let good : IsGood planned.config = subst IsGood c.config-config.ensures.value c.config-config.ensures.good in
    let up : c.start.new.self.out ≡ Up = c.start.ensures.ends.sends ∙ (c.receive.ensures.reads.read.ends.sends ∙ (c.tick.ensures.ends.sends ∙ opened.sends)) in
    let has : HasLayer planned.config c.receive.new.layer =
    read_has g.U.Indications.shows planned node.cfn node.receiver c.receive.new.self c.tick.new.self c.receive.new.layer c.args.user.now c.receive.new.user good (ticked_layer planned node c.tick.new.self opened c.tick.ensures.stands) c.receive.ensures in
    still_ticked g.U.Indications.shows planned node ((node.cfn + 1) % 256) c.start.new.self c.receive.new.self c.transmit.new.self c.receive.new.user c.transmit.new.user opened
    (ends_through node.layer c.tick.new.self c.start.new.self c.tick.ensures.ends (ends_through c.tick.new.self c.receive.new.layer c.start.new.self c.receive.ensures.reads.read.ends c.start.ensures.ends))
    (started_layer planned node.cfn c.receive.new.layer c.start.new.self has c.start.ensures.started) c.receive.ensures.opened (c.receive.ensures.pushed ∙ c.receive.ensures.completes.pushed)
    (given_start planned node.cfn c.receive.new.layer c.start.new.self has up c.start.ensures.started)
    (noted_start g.U.Indications.shows planned node c.tick.new.self c.receive.new.layer c.start.new.self c.receive.new.self c.args.user.now c.receive.new.user opened up c.tick.ensures.stands c.receive.ensures c.start.ensures.started)
    c.transmit.ensures

pub returns-clause-step : goal.returns-clause-step
returns-clause-step g c = λ state stands.
    let planned = c.args.accepted.now in
    let node : Node = the_view c.self.inside in
    let opened : IsNodeOf planned node = subst (λ (n : Node). IsNodeOf planned n) (sym c.self.view_is) c.requires.opened in
    let at : IsAt planned state node = subst (λ (n : Node). IsAt planned state n) (sym c.self.view_is) stands in
    let up : c.start.new.self.out ≡ Up = c.start.ensures.ends.sends ∙ (c.receive.ensures.reads.read.ends.sends ∙ (c.tick.ensures.ends.sends ∙ opened.sends)) in
    let ticking = c.tick.ensures.stands planned.config state.layer at.layer in
    ticked g.U.Indications.shows planned state node c.tick.new.self c.receive.new.layer c.start.new.self c.receive.new.self c.transmit.new.self c.args.user.now c.receive.new.user c.transmit.new.user at up ticking c.receive.ensures
    (c.start.ensures.started (has_read planned (readings_of c.receive.new.self.ttis) state.layer).layer (c.receive.ensures.reads.read.stands (ticks planned.config state.layer) ticking)) c.transmit.ensures

pub returns-clause-limited : goal.returns-clause-limited
returns-clause-limited g c =
    let planned = c.args.accepted.now in
    let node : Node = the_view c.self.inside in
    let opened : IsNodeOf planned node = subst (λ (n : Node). IsNodeOf planned n) (sym c.self.view_is) c.requires.opened in
    ticked_limited g.U.Indications.shows planned node.cfn node.receiver c.receive.new.self c.tick.new.self c.receive.new.layer c.start.new.self node.transmitter c.transmit.new.self c.args.user.now c.receive.new.user c.transmit.new.user
    (subst IsGood c.config-config.ensures.value c.config-config.ensures.good) (ticked_layer planned node c.tick.new.self opened c.tick.ensures.stands) c.receive.ensures c.transmit.ensures
