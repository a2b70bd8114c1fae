use Rattle.std.proofs.Common.{◌<◌, ◌∙◌, ap, length, subst, sym}
use Rattle.dch_mac.specs.Receivers.{receiver}
use Rattle.dch_indication.specs.Told.{Told}
use Rattle.dch_layer2.specs.Layers.{Outcome}
use Rattle.dch_layer2.specs.Standing.{Represents}
use Rattle.dch_layer2.specs.Values.{LayerRunning}
use Rattle.dch_layer2.proofs.Coming.{some_bits, takes_goes}
use Rattle.dch_layer2.proofs.layer.Layer2.take_good.Goals as goal

pub returns-clause-told : goal.returns-clause-told
returns-clause-told g c layer is =
    let some : 0 < length c.args.bits.now = some_bits (length c.args.bits.now) (sym c.is_empty.ensures ∙ c.if-is_empty.false) in
    subst (λ (o : Outcome). Told g.U.Indications.shows c.args.user.now o.lines c.pass_on.new.user) (sym (takes_goes c.args.accepted.now.config c.args.self.now.into c.args.channel c.args.bits.now c.demux-to.result layer some
    (c.demux-to.ensures ∙ ap (λ (x : LayerRunning). receiver c.args.accepted.now.config x.into c.args.channel c.args.bits.now) c.self.view_is)))
    (c.pass_on.ensures.told layer is)

pub returns-clause-stands : goal.returns-clause-stands
returns-clause-stands g c layer is =
    let some : 0 < length c.args.bits.now = some_bits (length c.args.bits.now) (sym c.is_empty.ensures ∙ c.if-is_empty.false) in
    subst (λ (o : Outcome). Represents c.args.accepted.now.config o.layer c.pass_on.new.self) (sym (takes_goes c.args.accepted.now.config c.args.self.now.into c.args.channel c.args.bits.now c.demux-to.result layer some
    (c.demux-to.ensures ∙ ap (λ (x : LayerRunning). receiver c.args.accepted.now.config x.into c.args.channel c.args.bits.now) c.self.view_is)))
    (c.pass_on.ensures.stands layer is)
