use Rattle.std.proofs.Common.{◌≡◌, ◌∙◌, Option, refl, ap, sym, subst}
use Rattle.dch_types.specs.declared.channel.Dir.TheVariants.{Up}
use Rattle.dch_node.specs.Values.{Radio}
use Rattle.dch_nodeb.specs.State.{UplinkFrame}
use Rattle.dch_txframes.specs.Lending.{radio_of}
use Rattle.dch_damage.specs.Damage.{radio_after}
use Rattle.dch_damage.specs.Opened.{HasRadioRoom}
use Rattle.dch_node.specs.Standing.{Tells}
use Rattle.dch_link.proofs.Arriving.{radio_room, radio_same, tfci_kept}
use Rattle.dch_link.specs.Legs.{LegGoes}
use Rattle.dch_link.specs.SoftNodes.{IsStandingLeg, LegLeadsTo, RepresentsLeg}
use Rattle.dch_link.specs.SoftValues.{LegParts}
use Rattle.dch_link.specs.contracts.leg.Leg.{the_view}
use Rattle.dch_link.proofs.SoftNexts.{leg_goes, with_damage}
use Rattle.dch_link.proofs.leg.Leg.receive_radio.Goals as goal

pub hit_radio-requires : goal.hit_radio-requires
hit_radio-requires g c =
    let planned = c.args.accepted.now in
    let it : LegParts = the_view c.self.inside in
    let opened : IsStandingLeg planned it = subst (λ (l : LegParts). IsStandingLeg planned l) (sym c.self.view_is) c.requires.opened in
    record {
      room = subst (λ (r : Option Radio). HasRadioRoom it.damage Up r) (sym (radio_same c.args.sent)) (radio_room planned it.damage Up (radio_of c.args.sent) opened.opened.damage c.requires.fits);
    }

pub step_with-requires-clause-event : goal.step_with-requires-clause-event
step_with-requires-clause-event g c =
    let planned = c.args.accepted.now in
    let it : LegParts = the_view c.self.inside in
    let opened : IsStandingLeg planned it = subst (λ (l : LegParts). IsStandingLeg planned l) (sym c.self.view_is) c.requires.opened in
    tfci_kept planned Up opened.state.damage (radio_of c.args.sent) c.radio-frame.result c.requires.fits
    (sym (radio_same c.radio-frame.result) ∙ c.radio-frame.ensures ∙ (c.hit_radio.ensures.arrives opened.state.damage opened.stands.damage).1 ∙ ap (radio_after opened.state.damage Up) (radio_same c.args.sent))

pub returns-clause-receives : goal.returns-clause-receives
returns-clause-receives g c = λ first leg was.
    let planned = c.args.accepted.now in
    let it : LegParts = the_view c.self.inside in
    let is : RepresentsLeg planned first leg it = subst (λ (l : LegParts). RepresentsLeg planned first leg l) (sym c.self.view_is) was in
    let waits = c.hit_radio.ensures.arrives leg.damage is.damage in
    let arrives : radio_of c.radio-frame.result ≡ radio_after leg.damage Up (radio_of c.args.sent) =
    sym (radio_same c.radio-frame.result) ∙ c.radio-frame.ensures ∙ waits.1 ∙ ap (radio_after leg.damage Up) (radio_same c.args.sent) in
    let hit : LegParts = record it { damage = c.hit_radio.new.self } in
    let stood : RepresentsLeg planned first leg hit = with_damage planned first leg it leg.damage c.hit_radio.new.self is waits.0 in
    subst (λ (r : Option Radio). LegLeadsTo planned first (LegGoes leg (UplinkFrame r)) (record hit { node_b = c.step_with.new.self }) (Tells g.U.Indications.shows c.args.user.now c.step_with.new.user)) arrives
    (leg_goes planned first leg hit (UplinkFrame (radio_of c.radio-frame.result)) c.step_with.new.self (Tells g.U.Indications.shows c.args.user.now c.step_with.new.user) stood (c.step_with.ensures.step planned leg.node_b.state refl is.node_b.stands))
