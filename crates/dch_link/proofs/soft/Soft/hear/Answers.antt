use Rattle.std.proofs.Common.{◌≡◌, ◌∙◌, List, length, refl, ap, sym, subst}
use Rattle.std.specs.Vec.{with_items}
use Rattle.std.proofs.lemmas.List.{with_items_is}
use Rattle.dch_node.specs.Values.{Output}
use Rattle.dch_txframes.specs.Lending.{radio_of}
use Rattle.dch_ue.specs.State.{DownlinkFrame}
use Rattle.dch_node.specs.Standing.{Tells}
use Rattle.dch_link.specs.Hearing.{Arrive, HaveRadioRooms, IsHeard}
use Rattle.dch_link.specs.Legs.{radio_from}
use Rattle.dch_link.specs.SoftNodes.{AreLegsOf, ArePartsOf, IsSoftOf, RepresentLegs, Represents}
use Rattle.dch_link.specs.SoftValues.{LegParts, Parts}
use Rattle.dch_link.specs.contracts.soft.Soft.{the_view}
use Rattle.dch_link.proofs.SoftArriving.{heard_tfci, leg_rooms}
use Rattle.dch_link.proofs.SoftNexts.{parts_with_legs, stands_with_legs, ue_next}
use Rattle.dch_link.proofs.soft.Soft.hear.Goals as goal

pub hit_radios-requires : goal.hit_radios-requires
hit_radios-requires g c =
    let planned = c.args.accepted.now in
    let parts : Parts = the_view c.self.inside in
    let opened : IsSoftOf planned parts = subst (λ (p : Parts). IsSoftOf planned p) (sym c.self.view_is) c.requires.opened in
    subst (λ (l : List LegParts). HaveRadioRooms l) (sym c.deref_mut.ensures.value) (leg_rooms planned opened.first opened.soft.legs parts.legs opened.opened.legs opened.stands.legs)

pub step_with-requires-clause-event : goal.step_with-requires-clause-event
step_with-requires-clause-event g c =
    let planned = c.args.accepted.now in
    let parts : Parts = the_view c.self.inside in
    let opened : IsSoftOf planned parts = subst (λ (p : Parts). IsSoftOf planned p) (sym c.self.view_is) c.requires.opened in
    let new = c.hit_radios.new.legs in
    let long : length c.hit_radios.new.legs ≡ length parts.legs = c.hit_radios.ensures.all ∙ ap (λ (l : List LegParts). length l) c.deref_mut.ensures.value in
    let front : (with_items c.self.inside.legs c.hit_radios.new.legs).items ≡ c.hit_radios.new.legs = with_items_is c.self.inside.legs c.hit_radios.new.legs (c.hit_radios.auto.legs ∙ c.deref_mut.ensures.len) in
    let arrive = c.hit_radios.ensures.arrive planned opened.first opened.soft.legs (subst (λ (l : List LegParts). RepresentLegs planned opened.first opened.soft.legs l) (sym c.deref_mut.ensures.value) opened.stands.legs) in
    let lent : c.deref.result.now ≡ new = c.deref.ensures.value ∙ front in
    let heard = c.lowest_radio-frame.ensures (λ k. radio_from (opened.soft.legs k)) (subst (λ (l : List LegParts). Arrive (λ k. radio_from (opened.soft.legs k)) l) (sym lent) arrive.1) in
    heard_tfci planned opened.first opened.soft.legs c.deref.result.now c.lowest_radio-frame.result (subst (λ (l : List LegParts). RepresentLegs planned opened.first opened.soft.legs l) (sym lent) arrive.0) heard

pub returns-clause-opened : goal.returns-clause-opened
returns-clause-opened g c =
    let planned = c.args.accepted.now in
    let parts : Parts = the_view c.self.inside in
    let opened : IsSoftOf planned parts = subst (λ (p : Parts). IsSoftOf planned p) (sym c.self.view_is) c.requires.opened in
    let new = c.hit_radios.new.legs in
    let long : length c.hit_radios.new.legs ≡ length parts.legs = c.hit_radios.ensures.all ∙ ap (λ (l : List LegParts). length l) c.deref_mut.ensures.value in
    let front : (with_items c.self.inside.legs c.hit_radios.new.legs).items ≡ c.hit_radios.new.legs = with_items_is c.self.inside.legs c.hit_radios.new.legs (c.hit_radios.auto.legs ∙ c.deref_mut.ensures.len) in
    let legs_are : AreLegsOf planned new = c.hit_radios.ensures.opened planned (subst (λ (l : List LegParts). AreLegsOf planned l) (sym c.deref_mut.ensures.value) opened.opened.legs) in
    let hit : ArePartsOf planned (record parts { legs = (with_items c.self.inside.legs new).items }) =
    subst (λ (l : List LegParts). ArePartsOf planned (record parts { legs = l })) (sym front) (parts_with_legs planned parts new opened.opened legs_are long) in
    record { ue = c.step_with.ensures.opened; rnc = hit.rnc; legs = hit.legs; combiner = hit.combiner; all = hit.all; some = hit.some; few = hit.few; room = hit.room }

pub returns-clause-hears : goal.returns-clause-hears
returns-clause-hears g c = λ first soft was.
    let planned = c.args.accepted.now in
    let parts : Parts = the_view c.self.inside in
    let is : Represents planned first soft parts = subst (λ (p : Parts). Represents planned first soft p) (sym c.self.view_is) was in
    let new = c.hit_radios.new.legs in
    let long : length c.hit_radios.new.legs ≡ length parts.legs = c.hit_radios.ensures.all ∙ ap (λ (l : List LegParts). length l) c.deref_mut.ensures.value in
    let front : (with_items c.self.inside.legs c.hit_radios.new.legs).items ≡ c.hit_radios.new.legs = with_items_is c.self.inside.legs c.hit_radios.new.legs (c.hit_radios.auto.legs ∙ c.deref_mut.ensures.len) in
    let arrive = c.hit_radios.ensures.arrive planned first soft.legs (subst (λ (l : List LegParts). RepresentLegs planned first soft.legs l) (sym c.deref_mut.ensures.value) is.legs) in
    let lent : c.deref.result.now ≡ new = c.deref.ensures.value ∙ front in
    let heard = c.lowest_radio-frame.ensures (λ k. radio_from (soft.legs k)) (subst (λ (l : List LegParts). Arrive (λ k. radio_from (soft.legs k)) l) (sym lent) arrive.1) in
    let hit : Parts = record parts { legs = (with_items c.self.inside.legs new).items } in
    let stood : Represents planned first soft hit =
    subst (λ (l : List LegParts). Represents planned first soft (record parts { legs = l })) (sym front) (stands_with_legs planned first soft parts new is arrive.0 long) in
    let led = ue_next planned first soft hit (DownlinkFrame (radio_of c.lowest_radio-frame.result)) c.step_with.new.self (Tells g.U.Indications.shows c.args.user.now c.step_with.new.user) stood c.step_with.ensures.opened (c.step_with.ensures.step planned soft.ue.state refl is.ue.stands) in (
      led.next,
      (
        record {
          heard = radio_of c.lowest_radio-frame.result;
          is_heard = subst (λ n. IsHeard (λ k. radio_from (soft.legs k)) n (radio_of c.lowest_radio-frame.result)) (ap (λ (l : List LegParts). length l) lent ∙ long ∙ sym is.count) heard;
          comes = led.does.0;
        },
        led.stands,
      ),
    )

pub returns-clause-legs : goal.returns-clause-legs
returns-clause-legs g c = sym (with_items c.self.inside.legs c.hit_radios.new.legs).ok.0 ∙ c.self.inside.legs.ok.0 ∙ ap (λ (p : Parts). length p.legs) c.self.view_is

pub returns-clause-same : goal.returns-clause-same
returns-clause-same g c =
    let planned = c.args.accepted.now in
    let parts : Parts = the_view c.self.inside in
    let opened : IsSoftOf planned parts = subst (λ (p : Parts). IsSoftOf planned p) (sym c.self.view_is) c.requires.opened in
    let stepped = c.step_with.ensures.step planned opened.soft.ue.state refl opened.stands.ue.stands in
    subst (λ (o : Output). Tells g.U.Indications.shows c.args.user.now c.step_with.new.user o.lines) stepped.step.1 stepped.tells
