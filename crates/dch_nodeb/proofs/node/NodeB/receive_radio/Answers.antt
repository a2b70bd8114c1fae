use Rattle.std.proofs.Common.{◌+◌, ◌∙◌, List, sym, subst}
use Rattle.std.specs.Prelude.{◌%◌}
use Rattle.std.proofs.lemmas.List.{with_items_is}
use Rattle.dch_types.specs.declared.channel.Side.{Side}
use Rattle.dch_types.specs.Limits.{IsSide}
use Rattle.dch_node.specs.Standing.{Tells}
use Rattle.dch_nodeb.specs.Standing.{NothingSent, Represents, Stepped}
use Rattle.dch_txframes.specs.Lending.{radio_of}
use Rattle.dch_nodeb.specs.State.{UplinkFrame}
use Rattle.dch_nodeb.specs.Values.{Node}
use Rattle.dch_txframes.specs.Values.{IubTxBuffer}
use Rattle.dch_nodeb.specs.contracts.node.NodeB.{the_view}
use Rattle.dch_nodeb.proofs.Limited.{received_limited}
use Rattle.dch_nodeb.proofs.Receiving.{received}
use Rattle.dch_nodeb.proofs.node.NodeB.receive_radio.Goals as goal

pub returns-clause-step : goal.returns-clause-step
returns-clause-step g c = λ state stands.
    subst (λ (tx_buffers : List IubTxBuffer). Stepped c.args.accepted.now state (UplinkFrame (radio_of c.args.frame))
    (record (the_view c.self.inside) { cfn = (c.self.inside.cfn + 1) % 256; receiver = c.receive.new.receiver; tx_buffers = tx_buffers }) (Tells g.U.Indications.shows c.args.user.now c.receive.new.user))
    (sym (with_items_is c.self.inside.parts.tx_buffers c.receive.new.tx_buffers (c.receive.auto.tx_buffers ∙ c.deref_mut.ensures.len)))
    (received g.U.Indications.shows c.args.accepted.now state (the_view c.self.inside) (radio_of c.args.frame) c.receive.new.tx_buffers c.receive.new.receiver c.args.user.now c.receive.new.user
    (subst (λ (n : Node). NothingSent n) (sym c.self.view_is) c.requires.quiet) c.receive.ensures
    (subst (λ (n : Node). Represents c.args.accepted.now state n) (sym c.self.view_is) stands))

pub returns-clause-limited : goal.returns-clause-limited
returns-clause-limited g c =
    received_limited g.U.Indications.shows c.args.accepted.now _ _ _ c.receive.new.tx_buffers c.receive.new.receiver c.args.user.now c.receive.new.user
    (subst (λ (side : Side). IsSide side) c.side-side.ensures.value c.side-side.ensures.good) c.receive.ensures
