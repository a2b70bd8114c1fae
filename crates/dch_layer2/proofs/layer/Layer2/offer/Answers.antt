use Rattle.std.proofs.Common.{◌<◌, ap, arith, length, set, subst, sym}
use Rattle.dch_types.specs.declared.channel.Dir.{Dir}
use Rattle.dch_layer2.specs.Bearings.{after_answer, answers}
use Rattle.dch_layer2.specs.Layers.{with_bearing}
use Rattle.dch_layer2.specs.Standing.{CanOffer, Represents}
use Rattle.dch_layer2.specs.Values.{LayerRunning}
use Rattle.dch_layer2.specs.contracts.layer.Layer2.{the_view}
use Rattle.dch_layer2.proofs.Places.{can_send, offered_stands}
use Rattle.dch_layer2.proofs.layer.Layer2.offer.Goals as goal

pub offer-requires : goal.offer-requires
offer-requires c = can_send (the_view c.self.inside) c.args.bearer c.index_mut.result.now (subst (λ (x : LayerRunning). CanOffer x c.args.bearer) (sym c.self.view_is) c.requires) c.index_mut.ensures.value

pub returns-clause-stands : goal.returns-clause-stands
returns-clause-stands c config layer is =
    let can : CanOffer (the_view c.self.inside) c.args.bearer = subst (λ (x : LayerRunning). CanOffer x c.args.bearer) (sym c.self.view_is) c.requires in
    let inside : c.args.bearer < length (the_view c.self.inside).bearers = omega (arith, can.there, can.stands.all) in
    subst (λ (d : Dir). Represents config (with_bearing layer c.args.bearer (after_answer (answers config d c.args.bearer c.args.octets.now c.args.bits.now (layer.bearings c.args.bearer)) c.args.octets.now c.args.bits.now (layer.bearings c.args.bearer))) (record (the_view c.self.inside) { bearers = set (the_view c.self.inside).bearers c.args.bearer c.offer.new.self }))
    (ap (λ (x : LayerRunning). x.out) c.self.view_is)
    (offered_stands config layer (the_view c.self.inside) c.args.bearer c.args.octets.now c.args.bits.now c.index_mut.result.now c.offer.new.self (subst (Represents config layer) (sym c.self.view_is) is) inside c.index_mut.ensures.value c.offer.ensures.stands)
