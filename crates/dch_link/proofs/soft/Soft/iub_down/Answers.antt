use Rattle.std.proofs.Common.{◌<◌, ◌∙◌, length, ap, sym, subst, ℕ, List, Option}
use Rattle.std.proofs.lemmas.List.{length-set}
use Rattle.std.specs.Prelude.{slice_set}
use Rattle.dch_types.specs.declared.channel.Dir.TheVariants.{Down}
use Rattle.dch_txframes.specs.Lending.{octets_of}
use Rattle.dch_node.specs.Standing.{Tells}
use Rattle.dch_link.specs.Fitting.{MayFitIub}
use Rattle.dch_link.specs.Legs.{ReceivesIub}
use Rattle.dch_link.specs.SoftStages.{AtLeg}
use Rattle.dch_link.specs.SoftNodes.{IsSoftOf, LeadsTo, Represents}
use Rattle.dch_link.specs.SoftValues.{Parts}
use Rattle.dch_link.specs.contracts.soft.Soft.{the_view}
use Rattle.dch_link.proofs.SoftNexts.{leg_next, parts_with_leg, standing_leg}
use Rattle.dch_link.proofs.soft.Soft.iub_down.Goals as goal

pub receive_iub-requires-clause-opened : goal.receive_iub-requires-clause-opened
receive_iub-requires-clause-opened g c =
    let planned = c.args.accepted.now in
    let parts : Parts = the_view c.self.inside in
    let opened : IsSoftOf planned parts = subst (λ (p : Parts). IsSoftOf planned p) (sym c.self.view_is) c.requires.opened in
    let inside : c.args.leg < length parts.legs = subst (λ (p : Parts). c.args.leg < length p.legs) (sym c.self.view_is) c.requires.leg in
    standing_leg planned parts c.args.leg c.index_mut.result.now opened (inside, c.index_mut.ensures.value)

pub receive_iub-requires-clause-fits : goal.receive_iub-requires-clause-fits
receive_iub-requires-clause-fits g c =
    let planned = c.args.accepted.now in
    let parts : Parts = the_view c.self.inside in
    let opened : IsSoftOf planned parts = subst (λ (p : Parts). IsSoftOf planned p) (sym c.self.view_is) c.requires.opened in
    subst (λ (o : Option (List ℕ)). MayFitIub planned Down c.args.set o) (sym (c.iub.ensures ∙ opened.stands.rnc.shows.iub c.args.set c.requires.set)) (opened.stands.rnc_sends.iub_is c.args.set c.requires.set)

pub returns-clause-opened : goal.returns-clause-opened
returns-clause-opened g c =
    let planned = c.args.accepted.now in
    let parts : Parts = the_view c.self.inside in
    let opened : IsSoftOf planned parts = subst (λ (p : Parts). IsSoftOf planned p) (sym c.self.view_is) c.requires.opened in
    let inside : c.args.leg < length parts.legs = subst (λ (p : Parts). c.args.leg < length p.legs) (sym c.self.view_is) c.requires.leg in
    parts_with_leg planned parts c.args.leg c.receive_iub.new.self opened.opened inside c.receive_iub.ensures.opened

pub returns-clause-passes : goal.returns-clause-passes
returns-clause-passes g c = λ first soft was.
    let planned = c.args.accepted.now in
    let parts : Parts = the_view c.self.inside in
    let is : Represents planned first soft parts = subst (λ (p : Parts). Represents planned first soft p) (sym c.self.view_is) was in
    let inside : c.args.leg < length parts.legs = subst (λ (p : Parts). c.args.leg < length p.legs) (sym c.self.view_is) c.requires.leg in
    subst (λ (o : Option (List ℕ)). LeadsTo planned first (AtLeg c.args.leg (ReceivesIub c.args.set o) soft) (record parts { legs = slice_set parts.legs c.args.leg c.receive_iub.new.self }) (Tells g.U.Indications.shows c.args.user.now c.receive_iub.new.user)) (c.iub.ensures ∙ is.rnc.shows.iub c.args.set c.requires.set)
    (leg_next planned first soft parts c.args.leg (ReceivesIub c.args.set (octets_of c.iub.result)) c.index_mut.result.now c.receive_iub.new.self (Tells g.U.Indications.shows c.args.user.now c.receive_iub.new.user) is (inside, c.index_mut.ensures.value) c.receive_iub.ensures.receives)

pub returns-clause-legs : goal.returns-clause-legs
returns-clause-legs g c = length-set c.self.inside.legs.items c.args.leg c.receive_iub.new.self ∙ ap (λ (p : Parts). length p.legs) c.self.view_is
