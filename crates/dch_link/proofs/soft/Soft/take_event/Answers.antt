use Rattle.dch_steptext.proofs.Reporting.{few_none}
use Rattle.dch_accept.specs.Reports.{step_bytes}
use Rattle.std.proofs.Common.{◌∙◌, length, arith, refl, ap, sym, subst}
use Rattle.std.proofs.lemmas.List.{length-set}
use Rattle.dch_types.specs.declared.channel.Dir.{Dir}
use Rattle.dch_ue.specs.State.{BlockedCombination as UeBlocked, OfferedUnit as UeOffered}
use Rattle.dch_rnc.specs.State.{BlockedCombination as RncBlocked, OfferedUnit as RncOffered}
use Rattle.std.specs.Prelude.{slice_set}
use Rattle.dch_node.specs.Standing.{Tells}
use Rattle.dch_link.specs.SoftEvents.{Happens}
use Rattle.dch_link.specs.declared.soft_event.SoftEvent.{SoftEvent}
use Rattle.dch_link.specs.declared.soft_event.SoftEvent.TheVariants.{Unit as Offered, Block}
use Rattle.dch_link.specs.SoftNodes.{IsSoftOf, LeadsTo, MayCome, Represents, damage_of, event_of}
use Rattle.dch_link.specs.SoftValues.{Parts}
use Rattle.dch_link.specs.contracts.soft.Soft.{the_view}
use Rattle.dch_link.proofs.SoftNexts.{damage_next, parts_with_leg, rnc_next, ue_next}
use Rattle.dch_link.proofs.soft.Soft.take_event.Goals as goal

pub returns-in-Up-clause-happens : goal.returns-in-Up-clause-happens
returns-in-Up-clause-happens g c = λ first soft was.
    let planned = c.args.accepted.now in
    let parts : Parts = the_view c.self.inside in
    let is : Represents planned first soft parts = subst (λ (p : Parts). Represents planned first soft p) (sym c.self.view_is) was in
    subst (λ (e : SoftEvent). LeadsTo planned first (Happens soft (event_of e)) (record parts { ue = c.step_with.new.self }) (Tells g.U.Indications.shows c.args.user.now c.step_with.new.user)) (sym (c.in-Unit.is ∙ ap (λ (d : Dir). Offered d c.in-Unit.bearer c.in-Unit.octets c.in-Unit.bits) c.in-Up.is))
    (ue_next planned first soft parts (UeOffered c.in-Unit.bearer c.in-Unit.octets.now c.in-Unit.bits.now) c.step_with.new.self (Tells g.U.Indications.shows c.args.user.now c.step_with.new.user) is c.step_with.ensures.opened (c.step_with.ensures.step planned soft.ue.state refl is.ue.stands))

pub returns-in-Down-clause-happens : goal.returns-in-Down-clause-happens
returns-in-Down-clause-happens g c = λ first soft was.
    let planned = c.args.accepted.now in
    let parts : Parts = the_view c.self.inside in
    let is : Represents planned first soft parts = subst (λ (p : Parts). Represents planned first soft p) (sym c.self.view_is) was in
    subst (λ (e : SoftEvent). LeadsTo planned first (Happens soft (event_of e)) (record parts { rnc = c.step_with-in-Down.new.self }) (Tells g.U.Indications.shows c.args.user.now c.step_with-in-Down.new.user)) (sym (c.in-Unit.is ∙ ap (λ (d : Dir). Offered d c.in-Unit.bearer c.in-Unit.octets c.in-Unit.bits) c.in-Down.is))
    (rnc_next planned first soft parts (RncOffered c.in-Unit.bearer c.in-Unit.octets.now c.in-Unit.bits.now) c.step_with-in-Down.new.self (Tells g.U.Indications.shows c.args.user.now c.step_with-in-Down.new.user) is (c.step_with-in-Down.ensures.step planned soft.rnc.state refl is.rnc.stands))

pub returns-in-Up-dir-clause-happens : goal.returns-in-Up-dir-clause-happens
returns-in-Up-dir-clause-happens g c = λ first soft was.
    let planned = c.args.accepted.now in
    let parts : Parts = the_view c.self.inside in
    let is : Represents planned first soft parts = subst (λ (p : Parts). Represents planned first soft p) (sym c.self.view_is) was in
    subst (λ (e : SoftEvent). LeadsTo planned first (Happens soft (event_of e)) (record parts { ue = c.step_with-in-Up-dir.new.self }) (Tells g.U.Indications.shows c.args.user.now c.step_with-in-Up-dir.new.user)) (sym (c.in-Block.is ∙ ap (λ (d : Dir). Block d c.in-Block.combination c.in-Block.on) c.in-Up-dir.is))
    (ue_next planned first soft parts (UeBlocked c.in-Block.combination c.in-Block.on) c.step_with-in-Up-dir.new.self (Tells g.U.Indications.shows c.args.user.now c.step_with-in-Up-dir.new.user) is c.step_with-in-Up-dir.ensures.opened (c.step_with-in-Up-dir.ensures.step planned soft.ue.state refl is.ue.stands))

pub returns-in-Down-dir-clause-happens : goal.returns-in-Down-dir-clause-happens
returns-in-Down-dir-clause-happens g c = λ first soft was.
    let planned = c.args.accepted.now in
    let parts : Parts = the_view c.self.inside in
    let is : Represents planned first soft parts = subst (λ (p : Parts). Represents planned first soft p) (sym c.self.view_is) was in
    subst (λ (e : SoftEvent). LeadsTo planned first (Happens soft (event_of e)) (record parts { rnc = c.step_with-in-Down-dir.new.self }) (Tells g.U.Indications.shows c.args.user.now c.step_with-in-Down-dir.new.user)) (sym (c.in-Block.is ∙ ap (λ (d : Dir). Block d c.in-Block.combination c.in-Block.on) c.in-Down-dir.is))
    (rnc_next planned first soft parts (RncBlocked c.in-Block.combination c.in-Block.on) c.step_with-in-Down-dir.new.self (Tells g.U.Indications.shows c.args.user.now c.step_with-in-Down-dir.new.user) is (c.step_with-in-Down-dir.ensures.step planned soft.rnc.state refl is.rnc.stands))

pub index_mut-requires : goal.index_mut-requires
index_mut-requires g c =
    let planned = c.args.accepted.now in
    let parts : Parts = the_view c.self.inside in
    let came = subst (λ (e : SoftEvent). MayCome planned (length parts.legs) e) c.in-Damage.is (subst (λ (p : Parts). MayCome planned (length p.legs) c.args.event) (sym c.self.view_is) c.requires.event) in
    omega (arith, came.0)

pub take_damage-requires : goal.take_damage-requires
take_damage-requires g c =
    let planned = c.args.accepted.now in
    let parts : Parts = the_view c.self.inside in
    let came = subst (λ (e : SoftEvent). MayCome planned (length parts.legs) e) c.in-Damage.is (subst (λ (p : Parts). MayCome planned (length p.legs) c.args.event) (sym c.self.view_is) c.requires.event) in
    came.1

pub returns-in-Damage-clause-opened : goal.returns-in-Damage-clause-opened
returns-in-Damage-clause-opened g c =
    let planned = c.args.accepted.now in
    let parts : Parts = the_view c.self.inside in
    let opened : IsSoftOf planned parts = subst (λ (p : Parts). IsSoftOf planned p) (sym c.self.view_is) c.requires.opened in
    let came = subst (λ (e : SoftEvent). MayCome planned (length parts.legs) e) c.in-Damage.is (subst (λ (p : Parts). MayCome planned (length p.legs) c.args.event) (sym c.self.view_is) c.requires.event) in
    parts_with_leg planned parts c.in-Damage.leg c.take_damage.new.self opened.opened came.0 (c.take_damage.ensures.opened (opened.opened.legs c.in-Damage.leg c.index_mut.result.now (came.0, c.index_mut.ensures.value)))

pub returns-in-Damage-clause-happens : goal.returns-in-Damage-clause-happens
returns-in-Damage-clause-happens g c = λ first soft was.
    let planned = c.args.accepted.now in
    let parts : Parts = the_view c.self.inside in
    let is : Represents planned first soft parts = subst (λ (p : Parts). Represents planned first soft p) (sym c.self.view_is) was in
    let came = subst (λ (e : SoftEvent). MayCome planned (length parts.legs) e) c.in-Damage.is (subst (λ (p : Parts). MayCome planned (length p.legs) c.args.event) (sym c.self.view_is) c.requires.event) in
    subst (λ (e : SoftEvent). LeadsTo planned first (Happens soft (event_of e)) (record parts { legs = slice_set parts.legs c.in-Damage.leg c.take_damage.new.self }) (Tells g.U.Indications.shows c.args.user.now c.args.user.now)) (sym c.in-Damage.is)
    (damage_next planned first soft parts c.in-Damage.leg (damage_of c.in-Damage.damage) c.index_mut.result.now c.take_damage.new.self (Tells g.U.Indications.shows c.args.user.now c.args.user.now) refl is (came.0, c.index_mut.ensures.value) (c.take_damage.ensures.waits first))

pub returns-in-Damage-clause-legs : goal.returns-in-Damage-clause-legs
returns-in-Damage-clause-legs g c = length-set c.self.inside.legs.items c.in-Damage.leg c.take_damage.new.self ∙ ap (λ (p : Parts). length p.legs) c.self.view_is

pub returns-in-Up-clause-opened : goal.returns-in-Up-clause-opened
returns-in-Up-clause-opened g c =
    let planned = c.args.accepted.now in
    let parts : Parts = the_view c.self.inside in
    let opened : IsSoftOf planned parts = subst (λ (p : Parts). IsSoftOf planned p) (sym c.self.view_is) c.requires.opened in
    let were = opened.opened in
    record { ue = c.step_with.ensures.opened; rnc = were.rnc; legs = were.legs; combiner = were.combiner; all = were.all; some = were.some; few = were.few; room = were.room }

pub returns-in-Down-clause-opened : goal.returns-in-Down-clause-opened
returns-in-Down-clause-opened g c =
    let planned = c.args.accepted.now in
    let parts : Parts = the_view c.self.inside in
    let opened : IsSoftOf planned parts = subst (λ (p : Parts). IsSoftOf planned p) (sym c.self.view_is) c.requires.opened in
    let were = opened.opened in
    record { ue = were.ue; rnc = c.step_with-in-Down.ensures.opened; legs = were.legs; combiner = were.combiner; all = were.all; some = were.some; few = were.few; room = were.room }

pub returns-in-Up-dir-clause-opened : goal.returns-in-Up-dir-clause-opened
returns-in-Up-dir-clause-opened g c =
    let planned = c.args.accepted.now in
    let parts : Parts = the_view c.self.inside in
    let opened : IsSoftOf planned parts = subst (λ (p : Parts). IsSoftOf planned p) (sym c.self.view_is) c.requires.opened in
    let were = opened.opened in
    record { ue = c.step_with-in-Up-dir.ensures.opened; rnc = were.rnc; legs = were.legs; combiner = were.combiner; all = were.all; some = were.some; few = were.few; room = were.room }

pub returns-in-Down-dir-clause-opened : goal.returns-in-Down-dir-clause-opened
returns-in-Down-dir-clause-opened g c =
    let planned = c.args.accepted.now in
    let parts : Parts = the_view c.self.inside in
    let opened : IsSoftOf planned parts = subst (λ (p : Parts). IsSoftOf planned p) (sym c.self.view_is) c.requires.opened in
    let were = opened.opened in
    record { ue = were.ue; rnc = c.step_with-in-Down-dir.ensures.opened; legs = were.legs; combiner = were.combiner; all = were.all; some = were.some; few = were.few; room = were.room }

pub returns-in-Damage-clause-few : goal.returns-in-Damage-clause-few
returns-in-Damage-clause-few g c = few_none g.U.Indications.shows (step_bytes c.args.accepted.now.config) c.args.user.now (omega arith)
