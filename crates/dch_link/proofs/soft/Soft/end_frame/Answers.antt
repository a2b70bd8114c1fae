use Rattle.std.proofs.Common.{◌≡◌, ◌+◌, ◌%◌, ◌∙◌, ℕ, List, length, refl, ap, sym, subst}
use Rattle.std.specs.Vec.{with_items}
use Rattle.std.proofs.lemmas.List.{with_items_is}
use Rattle.dch_link.specs.Soft.{framed}
use Rattle.dch_link.specs.SoftNodes.{AreLegsOf, IsSoftOf, RepresentLegs, Represents}
use Rattle.dch_link.specs.SoftValues.{LegParts, Parts}
use Rattle.dch_link.specs.contracts.soft.Soft.{the_view}
use Rattle.dch_link.proofs.Hit.{framed_parts, framed_stands}
use Rattle.dch_link.proofs.soft.Soft.end_frame.Goals as goal

pub returns-clause-opened : goal.returns-clause-opened
returns-clause-opened c =
    let planned = c.args.accepted.now in
    let parts : Parts = the_view c.self.inside in
    let opened : IsSoftOf planned parts = subst (λ (p : Parts). IsSoftOf planned p) (sym c.self.view_is) c.requires in
    let new = c.clear_damage.new.legs in
    let cfn : ℕ = (parts.cfn + 1) % 256 in
    let long : length c.clear_damage.new.legs ≡ length parts.legs = c.clear_damage.ensures.all ∙ ap (λ (l : List LegParts). length l) c.deref_mut.ensures.value in
    let front : (with_items c.self.inside.legs c.clear_damage.new.legs).items ≡ c.clear_damage.new.legs = with_items_is c.self.inside.legs c.clear_damage.new.legs (c.clear_damage.auto.legs ∙ c.deref_mut.ensures.len) in
    let legs_are : AreLegsOf planned new = c.clear_damage.ensures.opened planned (subst (λ (l : List LegParts). AreLegsOf planned l) (sym c.deref_mut.ensures.value) opened.opened.legs) in
    let stand : RepresentLegs planned opened.first (framed opened.soft).legs new =
    c.clear_damage.ensures.clear planned opened.first opened.soft.legs (subst (λ (l : List LegParts). RepresentLegs planned opened.first opened.soft.legs l) (sym c.deref_mut.ensures.value) opened.stands.legs) in
    subst (λ (l : List LegParts). IsSoftOf planned (record parts { legs = l; cfn = cfn })) (sym front) (record {
      opened = framed_parts planned parts new cfn opened.opened legs_are long;
      first = opened.first;
      soft = framed opened.soft;
      stands = framed_stands planned opened.first opened.soft parts new cfn opened.stands stand long refl;
    })

pub returns-clause-clear : goal.returns-clause-clear
returns-clause-clear c = λ first soft was.
    let planned = c.args.accepted.now in
    let parts : Parts = the_view c.self.inside in
    let is : Represents planned first soft parts = subst (λ (p : Parts). Represents planned first soft p) (sym c.self.view_is) was in
    let new = c.clear_damage.new.legs in
    let cfn : ℕ = (parts.cfn + 1) % 256 in
    let long : length c.clear_damage.new.legs ≡ length parts.legs = c.clear_damage.ensures.all ∙ ap (λ (l : List LegParts). length l) c.deref_mut.ensures.value in
    let front : (with_items c.self.inside.legs c.clear_damage.new.legs).items ≡ c.clear_damage.new.legs = with_items_is c.self.inside.legs c.clear_damage.new.legs (c.clear_damage.auto.legs ∙ c.deref_mut.ensures.len) in
    let stand : RepresentLegs planned first (framed soft).legs new =
    c.clear_damage.ensures.clear planned first soft.legs (subst (λ (l : List LegParts). RepresentLegs planned first soft.legs l) (sym c.deref_mut.ensures.value) is.legs) in
    subst (λ (l : List LegParts). Represents planned first (framed soft) (record parts { legs = l; cfn = cfn })) (sym front) (framed_stands planned first soft parts new cfn is stand long refl)

pub returns-clause-legs : goal.returns-clause-legs
returns-clause-legs c = sym (with_items c.self.inside.legs c.clear_damage.new.legs).ok.0 ∙ c.self.inside.legs.ok.0 ∙ ap (λ (p : Parts). length p.legs) c.self.view_is
