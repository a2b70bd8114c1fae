use Rattle.std.proofs.Common.{◌≡◌, ◌∙◌, ℕ, List, Option, ap, sym, subst}
use Rattle.dch_types.specs.declared.channel.Dir.TheVariants.{Up}
use Rattle.dch_nodeb.specs.Values.{iub_shown}
use Rattle.dch_damage.specs.Damage.{iub_after}
use Rattle.dch_damage.specs.Lending.{octets_of as octets_hit}
use Rattle.dch_damage.specs.Opened.{HasIubRoom}
use Rattle.dch_damage.specs.Tables.{iub_arrived}
use Rattle.dch_link.proofs.Arriving.{octets_same}
use Rattle.dch_link.specs.SoftNodes.{IsLegOf, RepresentsLeg}
use Rattle.dch_link.specs.SoftValues.{LegParts}
use Rattle.dch_link.specs.contracts.leg.Leg.{the_view}
use Rattle.dch_link.proofs.SoftNexts.{with_damage}
use Rattle.dch_link.proofs.leg.Leg.hit_iub.Goals as goal

pub hit_iub-requires-clause-room : goal.hit_iub-requires-clause-room
hit_iub-requires-clause-room c =
    let set = c.args.set in
    let it : LegParts = the_view c.self.inside in
    let room : HasIubRoom it.damage Up set (iub_shown it.node_b set) = subst (λ (l : LegParts). HasIubRoom l.damage Up set (iub_shown l.node_b set)) (sym c.self.view_is) c.requires.room in
    subst (λ (o : Option (List ℕ)). HasIubRoom it.damage Up set o) (sym (octets_same c.iub.result ∙ c.iub.ensures)) room

pub returns-clause-opened : goal.returns-clause-opened
returns-clause-opened c = λ planned were.
    let it : LegParts = the_view c.self.inside in
    let opened : IsLegOf planned it = subst (λ (l : LegParts). IsLegOf planned l) (sym c.self.view_is) were in
    record { node_b = opened.node_b; damage = c.hit_iub.ensures.opened planned opened.damage }

pub returns-clause-arrives : goal.returns-clause-arrives
returns-clause-arrives c = λ planned first leg was.
    let set = c.args.set in
    let it : LegParts = the_view c.self.inside in
    let is : RepresentsLeg planned first leg it = subst (λ (l : LegParts). RepresentsLeg planned first leg l) (sym c.self.view_is) was in
    let waits = c.hit_iub.ensures.arrives leg.damage is.damage in
    let sent : octets_hit c.iub.result ≡ iub_shown it.node_b set = octets_same c.iub.result ∙ c.iub.ensures in
    (with_damage planned first leg it leg.damage c.hit_iub.new.self is waits.0, ap (iub_arrived c.hit_iub.new.self) (sym sent) ∙ waits.1 ∙ ap (iub_after leg.damage Up set) (sent ∙ is.node_b.shows.iub set c.requires.set))
