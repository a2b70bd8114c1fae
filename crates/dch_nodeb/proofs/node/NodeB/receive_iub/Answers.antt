use Rattle.std.proofs.Common.{◌∙◌, List, sym, subst, arith}
use Rattle.std.proofs.lemmas.List.{with_items_is}
use Rattle.dch_node.specs.Standing.{Tells}
use Rattle.dch_nodeb.specs.Moves.{Keeps}
use Rattle.dch_nodeb.specs.Standing.{NothingSent, Represents, Stepped}
use Rattle.dch_nodeb.specs.State.{IubFrame}
use Rattle.dch_nodeb.specs.Values.{Node, IubRxBuffer}
use Rattle.dch_nodeb.specs.contracts.node.NodeB.{the_view}
use Rattle.dch_nodeb.proofs.Arriving.{arrived}
use Rattle.dch_nodeb.proofs.Limited.{kept_limited}
use Rattle.dch_nodeb.proofs.node.NodeB.receive_iub.Goals as goal

pub returns-clause-step : goal.returns-clause-step
returns-clause-step g c = λ state stands.
    subst (λ (rx_buffers : List IubRxBuffer). Stepped c.args.accepted.now state (IubFrame c.args.set c.args.frame.now) (record (the_view c.self.inside) { rx_buffers = rx_buffers }) (Tells g.U.Indications.shows c.args.user.now c.keep.new.user))
    (sym (with_items_is c.self.inside.parts.rx_buffers c.keep.new.rx_buffers (c.keep.auto.rx_buffers ∙ c.deref_mut.ensures.len)))
    (arrived g.U.Indications.shows c.args.accepted.now state (the_view c.self.inside) c.keep.new.rx_buffers c.args.set c.args.frame.now c.args.user.now c.keep.new.user
    (subst (λ (n : Node). NothingSent n) (sym c.self.view_is) c.requires.quiet)
    (subst (λ (rx_buffers : List IubRxBuffer). Keeps g.U.Indications.shows c.args.accepted.now c.args.set c.args.frame.now rx_buffers c.keep.new.rx_buffers c.args.user.now c.keep.new.user) c.deref_mut.ensures.value c.keep.ensures)
    (subst (λ (n : Node). Represents c.args.accepted.now state n) (sym c.self.view_is) stands))

pub returns-clause-limited : goal.returns-clause-limited
returns-clause-limited g c =
    kept_limited g.U.Indications.shows c.args.accepted.now c.args.set c.args.frame.now _ c.keep.new.rx_buffers c.args.user.now c.keep.new.user (omega (arith, c.ranges.set.fits)) c.keep.ensures
