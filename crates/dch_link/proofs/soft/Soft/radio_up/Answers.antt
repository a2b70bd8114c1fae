use Rattle.std.proofs.Common.{◌<◌, ◌∙◌, length, ap, sym, subst, Option}
use Rattle.std.proofs.lemmas.List.{length-set}
use Rattle.std.specs.Prelude.{slice_set}
use Rattle.dch_types.specs.declared.channel.Dir.TheVariants.{Up}
use Rattle.dch_node.specs.Values.{Radio}
use Rattle.dch_txframes.specs.Lending.{radio_of}
use Rattle.dch_node.specs.Standing.{Tells}
use Rattle.dch_link.specs.Fitting.{MayFitRadio}
use Rattle.dch_link.specs.Legs.{ReceivesRadio}
use Rattle.dch_link.specs.SoftStages.{AtLeg}
use Rattle.dch_link.specs.SoftNodes.{IsSoftOf, LeadsTo, Represents}
use Rattle.dch_link.specs.SoftValues.{Parts}
use Rattle.dch_link.specs.contracts.soft.Soft.{the_view}
use Rattle.dch_link.proofs.SoftNexts.{leg_next, parts_with_leg, standing_leg}
use Rattle.dch_link.proofs.soft.Soft.radio_up.Goals as goal

pub receive_radio-requires-clause-opened : goal.receive_radio-requires-clause-opened
receive_radio-requires-clause-opened g c =
    let planned = c.args.accepted.now in
    let parts : Parts = the_view c.self.inside in
    let opened : IsSoftOf planned parts = subst (λ (p : Parts). IsSoftOf planned p) (sym c.self.view_is) c.requires.opened in
    let inside : c.args.leg < length parts.legs = subst (λ (p : Parts). c.args.leg < length p.legs) (sym c.self.view_is) c.requires.leg in
    standing_leg planned parts c.args.leg c.index_mut.result.now opened (inside, c.index_mut.ensures.value)

pub receive_radio-requires-clause-fits : goal.receive_radio-requires-clause-fits
receive_radio-requires-clause-fits g c =
    let planned = c.args.accepted.now in
    let parts : Parts = the_view c.self.inside in
    let opened : IsSoftOf planned parts = subst (λ (p : Parts). IsSoftOf planned p) (sym c.self.view_is) c.requires.opened in
    subst (λ (r : Option Radio). MayFitRadio planned Up r) (sym (c.sent.ensures ∙ opened.stands.ue.shows.radio)) opened.stands.ue_sends.radio_is

pub returns-clause-opened : goal.returns-clause-opened
returns-clause-opened g c =
    let planned = c.args.accepted.now in
    let parts : Parts = the_view c.self.inside in
    let opened : IsSoftOf planned parts = subst (λ (p : Parts). IsSoftOf planned p) (sym c.self.view_is) c.requires.opened in
    let inside : c.args.leg < length parts.legs = subst (λ (p : Parts). c.args.leg < length p.legs) (sym c.self.view_is) c.requires.leg in
    parts_with_leg planned parts c.args.leg c.receive_radio.new.self opened.opened inside c.receive_radio.ensures.opened

pub returns-clause-passes : goal.returns-clause-passes
returns-clause-passes g c = λ first soft was.
    let planned = c.args.accepted.now in
    let parts : Parts = the_view c.self.inside in
    let is : Represents planned first soft parts = subst (λ (p : Parts). Represents planned first soft p) (sym c.self.view_is) was in
    let inside : c.args.leg < length parts.legs = subst (λ (p : Parts). c.args.leg < length p.legs) (sym c.self.view_is) c.requires.leg in
    subst (λ (r : Option Radio). LeadsTo planned first (AtLeg c.args.leg (ReceivesRadio r) soft) (record parts { legs = slice_set parts.legs c.args.leg c.receive_radio.new.self }) (Tells g.U.Indications.shows c.args.user.now c.receive_radio.new.user)) (c.sent.ensures ∙ is.ue.shows.radio)
    (leg_next planned first soft parts c.args.leg (ReceivesRadio (radio_of c.sent.result)) c.index_mut.result.now c.receive_radio.new.self (Tells g.U.Indications.shows c.args.user.now c.receive_radio.new.user) is (inside, c.index_mut.ensures.value) c.receive_radio.ensures.receives)

pub returns-clause-legs : goal.returns-clause-legs
returns-clause-legs g c = length-set c.self.inside.legs.items c.args.leg c.receive_radio.new.self ∙ ap (λ (p : Parts). length p.legs) c.self.view_is
