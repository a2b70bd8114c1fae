use Rattle.dch_steptext.proofs.Reporting.{few_none, few_one}
use Rattle.std.proofs.Common.{◌≡◌, ◌<◌, ◌∙◌, ℕ, List, Option, Some, None, length, refl, ap, sym, subst, inl, inr, get_or-set_same, arith}
use Rattle.std.specs.Prelude.{slice_set}
use Rattle.dch_txframes.specs.Lending.{octets_of}
use Rattle.dch_node.specs.Standing.{Tells}
use Rattle.dch_types.specs.declared.channel.Dir.TheVariants.{Up}
use Rattle.dch_indication.proofs.Telling.{told_one}
use Rattle.dch_node.specs.Lines.{IubBad}
use Rattle.dch_link.specs.Errors.{error_number}
use Rattle.dch_link.specs.Legs.{iub_from}
use Rattle.dch_link.specs.SoftStages.{IsRefused, IsTaken, MayTake}
use Rattle.dch_link.specs.Hearing.{iub_heard}
use Rattle.dch_link.specs.SoftNodes.{ArePartsOf, IsSoftOf, LeadsTo, Represents}
use Rattle.dch_link.specs.SoftValues.{LegParts, Parts}
use Rattle.dch_link.specs.contracts.soft.Soft.{the_view}
use Rattle.dch_link.proofs.SoftArriving.{leg_iub_room}
use Rattle.dch_link.proofs.Given.{parts_with_combiner, refusal_line, refused_frame, took_frame}
use Rattle.dch_link.proofs.SoftNexts.{led_by, parts_with_leg, soft_stays, stands_with_hit}
use Rattle.dch_link.proofs.soft.Soft.take_frame.Goals as goal

pub hit_iub-requires-clause-room : goal.hit_iub-requires-clause-room
hit_iub-requires-clause-room g c =
    let planned = c.args.accepted.now in
    let parts : Parts = the_view c.self.inside in
    let opened : IsSoftOf planned parts = subst (λ (p : Parts). IsSoftOf planned p) (sym c.self.view_is) c.requires.opened in
    let inside : c.args.leg < length parts.legs = subst (λ (p : Parts). c.args.leg < length p.legs) (sym c.self.view_is) c.requires.leg in
    leg_iub_room planned opened.first (opened.soft.legs c.args.leg) c.index_mut.result.now c.args.set (opened.opened.legs c.args.leg c.index_mut.result.now (inside, c.index_mut.ensures.value)) (opened.stands.legs c.args.leg c.index_mut.result.now (inside, c.index_mut.ensures.value)) c.requires.set

pub returns-in-Err-clause-opened : goal.returns-in-Err-clause-opened
returns-in-Err-clause-opened g c =
    let planned = c.args.accepted.now in
    let parts : Parts = the_view c.self.inside in
    let opened : IsSoftOf planned parts = subst (λ (p : Parts). IsSoftOf planned p) (sym c.self.view_is) c.requires.opened in
    let inside : c.args.leg < length parts.legs = subst (λ (p : Parts). c.args.leg < length p.legs) (sym c.self.view_is) c.requires.leg in
    let it : LegParts = c.index_mut.result.now in
    let hit : LegParts = c.hit_iub.new.self in
    let were : ArePartsOf planned (record parts { legs = slice_set parts.legs c.args.leg hit }) =
    parts_with_leg planned parts c.args.leg hit opened.opened inside (c.hit_iub.ensures.opened planned (opened.opened.legs c.args.leg it (inside, c.index_mut.ensures.value))) in
    parts_with_combiner planned (record parts { legs = slice_set parts.legs c.args.leg hit }) c.take.new.self parts.room were c.take.ensures.opened c.take.ensures.legs refl

pub returns-in-Err-clause-takes : goal.returns-in-Err-clause-takes
returns-in-Err-clause-takes g c = λ first soft was.
    let planned = c.args.accepted.now in
    let parts : Parts = the_view c.self.inside in
    let is : Represents planned first soft parts = subst (λ (p : Parts). Represents planned first soft p) (sym c.self.view_is) was in
    let inside : c.args.leg < length parts.legs = subst (λ (p : Parts). c.args.leg < length p.legs) (sym c.self.view_is) c.requires.leg in
    let it : LegParts = c.index_mut.result.now in
    let hit : LegParts = c.hit_iub.new.self in
    let hits : Parts = record parts { legs = slice_set parts.legs c.args.leg hit } in
    let arrive = c.hit_iub.ensures.arrives planned first (soft.legs c.args.leg) (is.legs c.args.leg it (inside, c.index_mut.ensures.value)) in
    let stood : Represents planned first soft hits = stands_with_hit planned first soft parts c.args.leg hit is inside arrive.0 in
    let here : c.index.result.now ≡ hit = c.index.ensures ∙ get_or-set_same parts.legs c.args.leg hit c.index.result.now inside in
    let came : Some c.in-Some.frame.now ≡ iub_from (soft.legs c.args.leg) c.args.set = ap octets_of (sym c.in-Some.is) ∙ c.iub.ensures ∙ ap (λ (l : LegParts). iub_heard l c.args.set) here ∙ arrive.1 in
    subst (λ (o : Option (List ℕ)). LeadsTo planned first (λ next lines. MayTake c.args.cfn c.args.set c.args.leg o soft next lines) (record hits { combiner = c.take.new.self }) (Tells g.U.Indications.shows c.args.user.now c.tell_error.new.user)) came
    (led_by planned first (IsRefused c.args.cfn c.args.set c.in-Some.frame.now soft) (λ next lines. MayTake c.args.cfn c.args.set c.args.leg (Some c.in-Some.frame.now) soft next lines) (record hits { combiner = c.take.new.self }) (Tells g.U.Indications.shows c.args.user.now c.tell_error.new.user) (λ next lines does. inr does)
    (refused_frame planned first soft hits c.args.cfn c.args.set c.in-Some.frame.now c.in-Err.error c.take.new.self (Tells g.U.Indications.shows c.args.user.now c.tell_error.new.user) stood c.in-Err.ensures.err c.in-Err.ensures.same c.take.ensures.others (told_one g.U.Indications.shows c.args.user.now c.tell_error.new.user (IubBad Up c.args.set (error_number c.in-Err.error)) c.tell_error.ensures)))

pub returns-in_default-take-clause-opened : goal.returns-in_default-take-clause-opened
returns-in_default-take-clause-opened g c =
    let planned = c.args.accepted.now in
    let parts : Parts = the_view c.self.inside in
    let opened : IsSoftOf planned parts = subst (λ (p : Parts). IsSoftOf planned p) (sym c.self.view_is) c.requires.opened in
    let inside : c.args.leg < length parts.legs = subst (λ (p : Parts). c.args.leg < length p.legs) (sym c.self.view_is) c.requires.leg in
    let it : LegParts = c.index_mut.result.now in
    let hit : LegParts = c.hit_iub.new.self in
    let were : ArePartsOf planned (record parts { legs = slice_set parts.legs c.args.leg hit }) =
    parts_with_leg planned parts c.args.leg hit opened.opened inside (c.hit_iub.ensures.opened planned (opened.opened.legs c.args.leg it (inside, c.index_mut.ensures.value))) in
    parts_with_combiner planned (record parts { legs = slice_set parts.legs c.args.leg hit }) c.take.new.self parts.room were c.take.ensures.opened c.take.ensures.legs refl

pub returns-in_default-take-clause-takes : goal.returns-in_default-take-clause-takes
returns-in_default-take-clause-takes g c = λ first soft was.
    let planned = c.args.accepted.now in
    let parts : Parts = the_view c.self.inside in
    let is : Represents planned first soft parts = subst (λ (p : Parts). Represents planned first soft p) (sym c.self.view_is) was in
    let inside : c.args.leg < length parts.legs = subst (λ (p : Parts). c.args.leg < length p.legs) (sym c.self.view_is) c.requires.leg in
    let it : LegParts = c.index_mut.result.now in
    let hit : LegParts = c.hit_iub.new.self in
    let hits : Parts = record parts { legs = slice_set parts.legs c.args.leg hit } in
    let arrive = c.hit_iub.ensures.arrives planned first (soft.legs c.args.leg) (is.legs c.args.leg it (inside, c.index_mut.ensures.value)) in
    let stood : Represents planned first soft hits = stands_with_hit planned first soft parts c.args.leg hit is inside arrive.0 in
    let here : c.index.result.now ≡ hit = c.index.ensures ∙ get_or-set_same parts.legs c.args.leg hit c.index.result.now inside in
    let came : Some c.in-Some.frame.now ≡ iub_from (soft.legs c.args.leg) c.args.set = ap octets_of (sym c.in-Some.is) ∙ c.iub.ensures ∙ ap (λ (l : LegParts). iub_heard l c.args.set) here ∙ arrive.1 in
    subst (λ (o : Option (List ℕ)). LeadsTo planned first (λ next lines. MayTake c.args.cfn c.args.set c.args.leg o soft next lines) (record hits { combiner = c.take.new.self }) (Tells g.U.Indications.shows c.args.user.now c.args.user.now)) came
    (led_by planned first (IsTaken c.args.cfn c.args.set c.args.leg c.in-Some.frame.now soft) (λ next lines. MayTake c.args.cfn c.args.set c.args.leg (Some c.in-Some.frame.now) soft next lines) (record hits { combiner = c.take.new.self }) (Tells g.U.Indications.shows c.args.user.now c.args.user.now) (λ next lines does. inl does)
    (took_frame planned first soft hits c.args.cfn c.args.set c.args.leg c.in-Some.frame.now c.take.new.self (Tells g.U.Indications.shows c.args.user.now c.args.user.now) refl stood c.in_default-take.ensures.ok c.take.ensures.others))

pub returns-in_default-clause-opened : goal.returns-in_default-clause-opened
returns-in_default-clause-opened g c =
    let planned = c.args.accepted.now in
    let parts : Parts = the_view c.self.inside in
    let opened : IsSoftOf planned parts = subst (λ (p : Parts). IsSoftOf planned p) (sym c.self.view_is) c.requires.opened in
    let inside : c.args.leg < length parts.legs = subst (λ (p : Parts). c.args.leg < length p.legs) (sym c.self.view_is) c.requires.leg in
    let it : LegParts = c.index_mut.result.now in
    let hit : LegParts = c.hit_iub.new.self in
    let were : ArePartsOf planned (record parts { legs = slice_set parts.legs c.args.leg hit }) =
    parts_with_leg planned parts c.args.leg hit opened.opened inside (c.hit_iub.ensures.opened planned (opened.opened.legs c.args.leg it (inside, c.index_mut.ensures.value))) in
    were

pub returns-in_default-clause-takes : goal.returns-in_default-clause-takes
returns-in_default-clause-takes g c = λ first soft was.
    let planned = c.args.accepted.now in
    let parts : Parts = the_view c.self.inside in
    let is : Represents planned first soft parts = subst (λ (p : Parts). Represents planned first soft p) (sym c.self.view_is) was in
    let inside : c.args.leg < length parts.legs = subst (λ (p : Parts). c.args.leg < length p.legs) (sym c.self.view_is) c.requires.leg in
    let it : LegParts = c.index_mut.result.now in
    let hit : LegParts = c.hit_iub.new.self in
    let hits : Parts = record parts { legs = slice_set parts.legs c.args.leg hit } in
    let arrive = c.hit_iub.ensures.arrives planned first (soft.legs c.args.leg) (is.legs c.args.leg it (inside, c.index_mut.ensures.value)) in
    let stood : Represents planned first soft hits = stands_with_hit planned first soft parts c.args.leg hit is inside arrive.0 in
    let here : c.index.result.now ≡ hit = c.index.ensures ∙ get_or-set_same parts.legs c.args.leg hit c.index.result.now inside in
    let came : None ≡ iub_from (soft.legs c.args.leg) c.args.set = ap octets_of (sym c.in_default.is) ∙ c.iub.ensures ∙ ap (λ (l : LegParts). iub_heard l c.args.set) here ∙ arrive.1 in
    subst (λ (o : Option (List ℕ)). LeadsTo planned first (λ next lines. MayTake c.args.cfn c.args.set c.args.leg o soft next lines) hits (Tells g.U.Indications.shows c.args.user.now c.args.user.now)) came
    (soft_stays planned first soft hits (Tells g.U.Indications.shows c.args.user.now c.args.user.now) refl stood)

pub returns-in-Err-clause-few : goal.returns-in-Err-clause-few
returns-in-Err-clause-few g c =
    few_one g.U.Indications.shows 4000000 c.args.user.now c.tell_error.new.user (IubBad Up c.args.set (error_number c.in-Err.error)) c.tell_error.ensures (omega (arith, refusal_line Up c.args.set c.in-Err.error (omega (arith, c.requires.set))))

pub returns-in_default-take-clause-few : goal.returns-in_default-take-clause-few
returns-in_default-take-clause-few g c = few_none g.U.Indications.shows 4000000 c.args.user.now (omega arith)

pub returns-in_default-clause-few : goal.returns-in_default-clause-few
returns-in_default-clause-few g c = few_none g.U.Indications.shows 4000000 c.args.user.now (omega arith)
