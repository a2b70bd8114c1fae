use Rattle.std.proofs.Common.{◌∙◌, List, sym, subst}
use Rattle.std.proofs.lemmas.List.{with_items_is}
use Rattle.dch_types.specs.declared.channel.Side.{Side}
use Rattle.dch_types.specs.Limits.{IsSide}
use Rattle.dch_config.specs.Good.{IsGood}
use Rattle.dch_node.specs.Standing.{Tells}
use Rattle.dch_nodeb.specs.Moves.{Transmits}
use Rattle.dch_nodeb.specs.Opened.{IsNodeOf}
use Rattle.dch_nodeb.specs.Standing.{NothingSent, Represents, Stepped}
use Rattle.dch_nodeb.specs.State.{DownlinkDue}
use Rattle.dch_nodeb.specs.Values.{Node, IubRxBuffer}
use Rattle.dch_nodeb.specs.contracts.node.NodeB.{the_view}
use Rattle.dch_nodeb.proofs.Departing.{departed}
use Rattle.dch_nodeb.proofs.Limited.{sent_limited}
use Rattle.dch_nodeb.proofs.node.NodeB.transmit_radio.Goals as goal

pub returns-clause-step : goal.returns-clause-step
returns-clause-step g c = λ state stands.
    let opened : IsNodeOf c.args.accepted.now (the_view c.self.inside) = subst (λ (n : Node). IsNodeOf c.args.accepted.now n) (sym c.self.view_is) c.requires.opened in
    subst (λ (rx_buffers : List IubRxBuffer). Stepped c.args.accepted.now state DownlinkDue (record (the_view c.self.inside) { rx_buffers = rx_buffers; transmitter = c.transmit.new.transmitter }) (Tells g.U.Indications.shows c.args.user.now c.transmit.new.user))
    (sym (with_items_is c.self.inside.parts.rx_buffers c.transmit.new.rx_buffers (c.transmit.auto.rx_buffers ∙ c.deref_mut.ensures.len)))
    (departed g.U.Indications.shows c.args.accepted.now state (the_view c.self.inside) c.transmit.new.rx_buffers c.transmit.new.transmitter c.args.user.now c.transmit.new.user
    (subst (λ (side : Side). IsSide side) c.side-side.ensures.value c.side-side.ensures.good) opened.rx_buffers opened.noted
    (subst (λ (n : Node). NothingSent n) (sym c.self.view_is) c.requires.quiet)
    (subst (λ (rx_buffers : List IubRxBuffer). Transmits g.U.Indications.shows c.args.accepted.now c.self.inside.cfn rx_buffers c.transmit.new.rx_buffers c.self.inside.parts.transmitter c.transmit.new.transmitter c.args.user.now c.transmit.new.user) c.deref_mut.ensures.value c.transmit.ensures)
    (subst (λ (n : Node). Represents c.args.accepted.now state n) (sym c.self.view_is) stands))

pub returns-clause-limited : goal.returns-clause-limited
returns-clause-limited g c =
    sent_limited g.U.Indications.shows c.args.accepted.now _ c.transmit.ensures.loaded c.transmit.new.transmitter c.args.user.now c.transmit.new.user
    (subst IsGood c.config-config.ensures.value c.config-config.ensures.good).downlink c.transmit.ensures.sends
