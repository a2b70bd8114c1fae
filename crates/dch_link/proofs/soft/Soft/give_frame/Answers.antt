use Rattle.std.proofs.Common.{◌≡◌, ◌≤◌, ◌+◌, ◌∙◌, ℕ, List, length, take, arith, refl, sym, subst}
use Rattle.std.specs.Vec.{with_items}
use Rattle.std.proofs.lemmas.List.{with_items_is}
use Rattle.dch_types.specs.declared.channel.Side.{Side}
use Rattle.dch_types.specs.declared.channel.Dir.TheVariants.{Up}
use Rattle.dch_types.specs.Limits.{IsSide}
use Rattle.dch_accept.specs.Reports.{step_bytes}
use Rattle.dch_node.specs.Lines.{Iub}
use Rattle.dch_steptext.proofs.Reporting.{few_none, few_one, few_then}
use Rattle.dch_steptext.proofs.Texts.{iub_line}
use Rattle.dch_combine.specs.Combined.{IsCombinedFrame}
use Rattle.dch_combine.specs.Opened.{HoldsLongest}
use Rattle.dch_combine.specs.Values.{frames_of}
use Rattle.dch_node.specs.Standing.{Tells}
use Rattle.dch_link.specs.SoftNodes.{ArePartsOf, IsSoftOf, Represents}
use Rattle.dch_link.specs.SoftValues.{Parts}
use Rattle.dch_link.specs.contracts.soft.Soft.{the_view}
use Rattle.dch_link.proofs.Given.{combined_few, gives_frame, gives_none, parts_with_combiner}
use Rattle.dch_link.proofs.soft.Soft.give_frame.Goals as goal

pub give-requires-clause-room : goal.give-requires-clause-room
give-requires-clause-room g c =
    let planned = c.args.accepted.now in
    let parts : Parts = the_view c.self.inside in
    let opened : IsSoftOf planned parts = subst (λ (p : Parts). IsSoftOf planned p) (sym c.self.view_is) c.requires.opened in
    subst (λ (l : List ℕ). HoldsLongest planned.config c.args.set (length l)) (sym c.deref_mut.ensures.value) (opened.opened.room c.args.set c.requires.set)

-- the combined frame is no longer than one of a good configuration
pub returns-in-Some-clause-few : goal.returns-in-Some-clause-few
returns-in-Some-clause-few g c =
    let config = c.args.accepted.now.config in
    let len = c.in-Some.len in
    let good : IsSide config.uplink.side = subst (λ (s : Side). IsSide s) c.side-side.ensures.value c.side-side.ensures.good in
    let front : (with_items c.self.inside.out c.give.new.out).items ≡ c.give.new.out = with_items_is c.self.inside.out c.give.new.out (c.give.auto.out ∙ c.deref_mut.ensures.len) in
    let lent : c.deref.result.now ≡ c.give.new.out = c.deref.ensures.value ∙ front in
    let frame : List ℕ = take len c.deref.result.now in
    let few : length frame ≤ 140000 =
    subst (λ (l : List ℕ). length (take len l) ≤ 140000) (sym lent) (combined_few config c.args.set c.args.cfn (frames_of c.self.inside.combiner c.args.set) (take len c.give.new.out) good c.in-Some.ensures.gives.frame) in
    few_then g.U.Indications.shows 300001 (step_bytes config) (step_bytes config + 300000) c.args.user.now c.tell_iub.new.user c.step_with.new.user (omega arith)
    (few_one g.U.Indications.shows 300001 c.args.user.now c.tell_iub.new.user (Iub Up c.args.set frame) c.tell_iub.ensures.shown (omega (arith, iub_line Up c.args.set frame (omega (arith, c.requires.set)) few)))
    c.step_with.ensures.few

pub returns-in_default-clause-few : goal.returns-in_default-clause-few
returns-in_default-clause-few g c = few_none g.U.Indications.shows (step_bytes c.args.accepted.now.config + 300000) c.args.user.now (omega arith)

pub returns-in-Some-clause-opened : goal.returns-in-Some-clause-opened
returns-in-Some-clause-opened g c =
    let planned = c.args.accepted.now in
    let parts : Parts = the_view c.self.inside in
    let opened : IsSoftOf planned parts = subst (λ (p : Parts). IsSoftOf planned p) (sym c.self.view_is) c.requires.opened in
    let room : ℕ = length (with_items c.self.inside.out c.give.new.out).items in
    let long : room ≡ parts.room = sym (with_items c.self.inside.out c.give.new.out).ok.0 ∙ c.self.inside.out.ok.0 in
    let made : ArePartsOf planned (record parts { combiner = c.give.new.self; room = room }) = parts_with_combiner planned parts c.give.new.self room opened.opened c.give.ensures.opened c.give.ensures.legs long in
    record { ue = made.ue; rnc = c.step_with.ensures.opened; legs = made.legs; combiner = made.combiner; all = made.all; some = made.some; few = made.few; room = made.room }

pub returns-in-Some-clause-gives : goal.returns-in-Some-clause-gives
returns-in-Some-clause-gives g c = λ first soft was.
    let planned = c.args.accepted.now in
    let parts : Parts = the_view c.self.inside in
    let is : Represents planned first soft parts = subst (λ (p : Parts). Represents planned first soft p) (sym c.self.view_is) was in
    let set = c.args.set in
    let cfn = c.args.cfn in
    let len = c.in-Some.len in
    let frame : List ℕ = take len c.deref.result.now in
    let front : (with_items c.self.inside.out c.give.new.out).items ≡ c.give.new.out = with_items_is c.self.inside.out c.give.new.out (c.give.auto.out ∙ c.deref_mut.ensures.len) in
    let lent : c.deref.result.now ≡ c.give.new.out = c.deref.ensures.value ∙ front in
    let combined : IsCombinedFrame planned.config set (frames_of parts.combiner set) cfn frame =
    subst (λ (l : List ℕ). IsCombinedFrame planned.config set (frames_of parts.combiner set) cfn (take len l)) (sym lent) c.in-Some.ensures.gives.frame in
    gives_frame g.U.Indications.shows planned first soft parts cfn set frame c.give.new.self (length (with_items c.self.inside.out c.give.new.out).items) c.step_with.new.self c.args.user.now c.tell_iub.new.user c.step_with.new.user is combined c.give.ensures.empty
    c.give.ensures.others c.tell_iub.ensures.shown (c.step_with.ensures.step planned soft.rnc.state refl is.rnc.stands)

pub returns-in_default-clause-opened : goal.returns-in_default-clause-opened
returns-in_default-clause-opened g c =
    let planned = c.args.accepted.now in
    let parts : Parts = the_view c.self.inside in
    let opened : IsSoftOf planned parts = subst (λ (p : Parts). IsSoftOf planned p) (sym c.self.view_is) c.requires.opened in
    let room : ℕ = length (with_items c.self.inside.out c.give.new.out).items in
    let long : room ≡ parts.room = sym (with_items c.self.inside.out c.give.new.out).ok.0 ∙ c.self.inside.out.ok.0 in
    parts_with_combiner planned parts c.give.new.self room opened.opened c.give.ensures.opened c.give.ensures.legs long

pub returns-in_default-clause-gives : goal.returns-in_default-clause-gives
returns-in_default-clause-gives g c = λ first soft was.
    let planned = c.args.accepted.now in
    let parts : Parts = the_view c.self.inside in
    let is : Represents planned first soft parts = subst (λ (p : Parts). Represents planned first soft p) (sym c.self.view_is) was in
    gives_none planned first soft parts c.args.cfn c.args.set c.give.new.self (length (with_items c.self.inside.out c.give.new.out).items) (Tells g.U.Indications.shows c.args.user.now c.args.user.now) refl is c.in_default.ensures.gives.0 c.give.ensures.empty c.give.ensures.others
