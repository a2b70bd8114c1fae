use Rattle.std.proofs.Common.{◌≡◌, ◌∙◌, Option, ap, sym, subst}
use Rattle.dch_types.specs.declared.channel.Dir.TheVariants.{Down}
use Rattle.dch_node.specs.Values.{Radio}
use Rattle.dch_nodeb.specs.Values.{radio_shown}
use Rattle.dch_damage.specs.Damage.{radio_after}
use Rattle.dch_damage.specs.Lending.{radio_of as radio_hit}
use Rattle.dch_damage.specs.Opened.{HasRadioRoom}
use Rattle.dch_damage.specs.Tables.{radio_arrived}
use Rattle.dch_link.proofs.Arriving.{radio_same}
use Rattle.dch_link.specs.SoftNodes.{IsLegOf, RepresentsLeg}
use Rattle.dch_link.specs.SoftValues.{LegParts}
use Rattle.dch_link.specs.contracts.leg.Leg.{the_view}
use Rattle.dch_link.proofs.SoftNexts.{with_damage}
use Rattle.dch_link.proofs.leg.Leg.hit_radio.Goals as goal

pub hit_radio-requires : goal.hit_radio-requires
hit_radio-requires c =
    let it : LegParts = the_view c.self.inside in
    let room : HasRadioRoom it.damage Down (radio_shown it.node_b) = subst (λ (l : LegParts). HasRadioRoom l.damage Down (radio_shown l.node_b)) (sym c.self.view_is) c.requires.room in
    record { room = subst (λ (r : Option Radio). HasRadioRoom it.damage Down r) (sym (radio_same c.sent.result ∙ c.sent.ensures)) room }

pub returns-clause-opened : goal.returns-clause-opened
returns-clause-opened c = λ planned were.
    let it : LegParts = the_view c.self.inside in
    let opened : IsLegOf planned it = subst (λ (l : LegParts). IsLegOf planned l) (sym c.self.view_is) were in
    record { node_b = opened.node_b; damage = c.hit_radio.ensures.opened planned opened.damage }

pub returns-clause-arrives : goal.returns-clause-arrives
returns-clause-arrives c = λ planned first leg was.
    let it : LegParts = the_view c.self.inside in
    let is : RepresentsLeg planned first leg it = subst (λ (l : LegParts). RepresentsLeg planned first leg l) (sym c.self.view_is) was in
    let waits = c.hit_radio.ensures.arrives leg.damage is.damage in
    let sent : radio_hit c.sent.result ≡ radio_shown it.node_b = radio_same c.sent.result ∙ c.sent.ensures in
    (with_damage planned first leg it leg.damage c.hit_radio.new.self is waits.0, ap (radio_arrived c.hit_radio.new.self) (sym sent) ∙ waits.1 ∙ ap (radio_after leg.damage Down) (sent ∙ is.node_b.shows.radio))
