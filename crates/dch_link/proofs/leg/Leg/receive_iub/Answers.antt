use Rattle.dch_steptext.proofs.Reporting.{few_none}
use Rattle.std.proofs.Common.{◌≡◌, ◌∙◌, List, ℕ, Option, Some, None, refl, ap, sym, subst, arith}
use Rattle.dch_types.specs.declared.channel.Dir.TheVariants.{Down}
use Rattle.dch_nodeb.specs.State.{IubFrame}
use Rattle.dch_txframes.specs.Lending.{octets_of}
use Rattle.dch_damage.specs.Damage.{iub_after}
use Rattle.dch_damage.specs.Lending.{octets_of as octets_hit}
use Rattle.dch_damage.specs.Opened.{HasIubRoom}
use Rattle.dch_node.specs.Standing.{Tells}
use Rattle.dch_link.proofs.Arriving.{iub_room, octets_same, set_there}
use Rattle.dch_link.specs.Legs.{MayGoDown}
use Rattle.dch_link.specs.SoftNodes.{IsStandingLeg, LegLeadsTo, RepresentsLeg}
use Rattle.dch_link.specs.SoftValues.{LegParts}
use Rattle.dch_link.specs.contracts.leg.Leg.{the_view}
use Rattle.dch_link.proofs.SoftNexts.{leg_goes, leg_stays, with_damage}
use Rattle.dch_link.proofs.leg.Leg.receive_iub.Goals as goal

pub hit_iub-requires-clause-room : goal.hit_iub-requires-clause-room
hit_iub-requires-clause-room g c =
    let planned = c.args.accepted.now in
    let it : LegParts = the_view c.self.inside in
    let opened : IsStandingLeg planned it = subst (λ (l : LegParts). IsStandingLeg planned l) (sym c.self.view_is) c.requires.opened in
    subst (λ (o : Option (List ℕ)). HasIubRoom it.damage Down c.args.set o) (sym (octets_same c.args.sent))
    (iub_room planned it.damage Down c.args.set (octets_of c.args.sent) opened.opened.damage c.requires.set c.requires.fits)

pub step_with-requires-clause-event : goal.step_with-requires-clause-event
step_with-requires-clause-event g c =
    let planned = c.args.accepted.now in
    let it : LegParts = the_view c.self.inside in
    let opened : IsStandingLeg planned it = subst (λ (l : LegParts). IsStandingLeg planned l) (sym c.self.view_is) c.requires.opened in
    set_there planned Down c.args.set opened.state.damage (octets_of c.args.sent) c.in-Some.frame.now c.requires.fits
    (ap octets_hit (sym c.in-Some.is) ∙ c.iub.ensures ∙ (c.hit_iub.ensures.arrives opened.state.damage opened.stands.damage).1 ∙ ap (iub_after opened.state.damage Down c.args.set) (octets_same c.args.sent))

pub returns-in-Some-clause-receives : goal.returns-in-Some-clause-receives
returns-in-Some-clause-receives g c = λ first leg was.
    let planned = c.args.accepted.now in
    let set = c.args.set in
    let it : LegParts = the_view c.self.inside in
    let is : RepresentsLeg planned first leg it = subst (λ (l : LegParts). RepresentsLeg planned first leg l) (sym c.self.view_is) was in
    let waits = c.hit_iub.ensures.arrives leg.damage is.damage in
    let arrives : Some c.in-Some.frame.now ≡ iub_after leg.damage Down set (octets_of c.args.sent) = ap octets_hit (sym c.in-Some.is) ∙ c.iub.ensures ∙ waits.1 ∙ ap (iub_after leg.damage Down set) (octets_same c.args.sent) in
    let hit : LegParts = record it { damage = c.hit_iub.new.self } in
    let stood : RepresentsLeg planned first leg hit = with_damage planned first leg it leg.damage c.hit_iub.new.self is waits.0 in
    subst (λ (o : Option (List ℕ)). LegLeadsTo planned first (λ next lines. MayGoDown set o leg next lines) (record hit { node_b = c.step_with.new.self }) (Tells g.U.Indications.shows c.args.user.now c.step_with.new.user)) arrives
    (leg_goes planned first leg hit (IubFrame set c.in-Some.frame.now) c.step_with.new.self (Tells g.U.Indications.shows c.args.user.now c.step_with.new.user) stood (c.step_with.ensures.step planned leg.node_b.state refl is.node_b.stands))

pub returns-in_default-clause-receives : goal.returns-in_default-clause-receives
returns-in_default-clause-receives g c = λ first leg was.
    let planned = c.args.accepted.now in
    let set = c.args.set in
    let it : LegParts = the_view c.self.inside in
    let is : RepresentsLeg planned first leg it = subst (λ (l : LegParts). RepresentsLeg planned first leg l) (sym c.self.view_is) was in
    let waits = c.hit_iub.ensures.arrives leg.damage is.damage in
    let arrives : None ≡ iub_after leg.damage Down set (octets_of c.args.sent) = ap octets_hit (sym c.in_default.is) ∙ c.iub.ensures ∙ waits.1 ∙ ap (iub_after leg.damage Down set) (octets_same c.args.sent) in
    let hit : LegParts = record it { damage = c.hit_iub.new.self } in
    let stood : RepresentsLeg planned first leg hit = with_damage planned first leg it leg.damage c.hit_iub.new.self is waits.0 in
    subst (λ (o : Option (List ℕ)). LegLeadsTo planned first (λ next lines. MayGoDown set o leg next lines) hit (Tells g.U.Indications.shows c.args.user.now c.args.user.now)) arrives (leg_stays planned first leg hit (Tells g.U.Indications.shows c.args.user.now c.args.user.now) refl stood)

pub returns-in_default-clause-few : goal.returns-in_default-clause-few
returns-in_default-clause-few g c = few_none g.U.Indications.shows 4000000 c.args.user.now (omega arith)
