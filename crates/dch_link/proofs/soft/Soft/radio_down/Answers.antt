use Rattle.std.proofs.Common.{◌<◌, ◌∙◌, length, ap, sym, subst}
use Rattle.std.proofs.lemmas.List.{length-set}
use Rattle.dch_node.specs.Standing.{Tells}
use Rattle.dch_link.specs.Legs.{Transmits}
use Rattle.dch_link.specs.SoftNodes.{IsSoftOf, Represents}
use Rattle.dch_link.specs.SoftValues.{Parts}
use Rattle.dch_link.specs.contracts.soft.Soft.{the_view}
use Rattle.dch_link.proofs.SoftNexts.{leg_next, parts_with_leg, standing_leg}
use Rattle.dch_link.proofs.soft.Soft.radio_down.Goals as goal

pub transmit-requires : goal.transmit-requires
transmit-requires g c =
    let planned = c.args.accepted.now in
    let parts : Parts = the_view c.self.inside in
    let opened : IsSoftOf planned parts = subst (λ (p : Parts). IsSoftOf planned p) (sym c.self.view_is) c.requires.opened in
    let inside : c.args.leg < length parts.legs = subst (λ (p : Parts). c.args.leg < length p.legs) (sym c.self.view_is) c.requires.leg in
    record { opened = standing_leg planned parts c.args.leg c.index_mut.result.now opened (inside, c.index_mut.ensures.value) }

pub returns-clause-opened : goal.returns-clause-opened
returns-clause-opened g c =
    let planned = c.args.accepted.now in
    let parts : Parts = the_view c.self.inside in
    let opened : IsSoftOf planned parts = subst (λ (p : Parts). IsSoftOf planned p) (sym c.self.view_is) c.requires.opened in
    let inside : c.args.leg < length parts.legs = subst (λ (p : Parts). c.args.leg < length p.legs) (sym c.self.view_is) c.requires.leg in
    parts_with_leg planned parts c.args.leg c.transmit.new.self opened.opened inside c.transmit.ensures.opened

pub returns-clause-passes : goal.returns-clause-passes
returns-clause-passes g c = λ first soft was.
    let planned = c.args.accepted.now in
    let parts : Parts = the_view c.self.inside in
    let is : Represents planned first soft parts = subst (λ (p : Parts). Represents planned first soft p) (sym c.self.view_is) was in
    let inside : c.args.leg < length parts.legs = subst (λ (p : Parts). c.args.leg < length p.legs) (sym c.self.view_is) c.requires.leg in
    leg_next planned first soft parts c.args.leg Transmits c.index_mut.result.now c.transmit.new.self (Tells g.U.Indications.shows c.args.user.now c.transmit.new.user) is (inside, c.index_mut.ensures.value) c.transmit.ensures.transmits

pub returns-clause-legs : goal.returns-clause-legs
returns-clause-legs g c = length-set c.self.inside.legs.items c.args.leg c.transmit.new.self ∙ ap (λ (p : Parts). length p.legs) c.self.view_is
