-- The configuration and the count of the legs stay over the lines of `soft`.
use Rattle.std.proofs.Common.{◌≡◌, ◌≢◌, ◌∙◌, ℕ, zero, suc, List, [], ◌∷◌, Bool, true, false, refl, ap, ⊎_elim}
use Rattle.std.specs.Prelude.{Option, Some, None}
use Rattle.dch_accept.specs.Plans.{Planned}
use Rattle.dch_lines.specs.LineTexts.{HandlesLine, HandlesLines, is_empty}
use Rattle.dch_runlaw.specs.LinkcmdStepping.{LineSteps, Resumes}
use Rattle.dch_node.specs.Lines.{Line}
use Rattle.dch_types.specs.declared.channel.Dir.TheVariants.{Up, Down}
use Rattle.dch_nodecmd.specs.UeState.{Event as UeEvent}
use Rattle.dch_nodecmd.specs.RncState.{BlockedCombination, Change, Event as RncEvent, IubFrame, OfferedUnit, Tick}
use Rattle.dch_nodecmd.specs.RncLasting.{rnc_lasting}
use Rattle.dch_gen.specs.SoftEvents.{BlockedCombination as Blocks, Damages, Event, Happens, OfferedUnit as Offers}
use Rattle.dch_gen.specs.LinkLegs.{LegState, iub_from}
use Rattle.dch_gen.specs.SoftPassing.{next_stage}
use Rattle.dch_gen.specs.LinkSoft.{SoftState, active, given, over, uplink_of}
use Rattle.dch_gen.specs.SoftStages.{AtLeg, AtStage, GivesFrame, MayTake, RncGoes, TakesFrame, UeGoes, WhereOver}
use Rattle.dch_gen.specs.soft_stage.Stage.{Stage}
use Rattle.dch_gen.specs.soft_stage.Stage.TheVariants.{RncTick, IubDown, RadioDown, UeTick, RadioUp, IubUp, Combine}
use Rattle.dch_runlaw.specs.SoftLineEvents.{Frames, OneEvent, Said}
use Rattle.dch_runlaw.specs.SoftRules.{PassesStage, Takes, soft_lines, soft_steps}
use Rattle.dch_runlaw.specs.SoftRun.{Run, passed_by}

-- both are the same
pub record IsAlike (old new : SoftState) : Type 0 where
  pub count : new.count ≡ old.count
  pub active : active new ≡ active old

alike_on : (old mid new : SoftState) → IsAlike old mid → IsAlike mid new → IsAlike old new
alike_on old mid new first last = record { count = last.count ∙ first.count; active = last.active ∙ first.active }

alike_is : (old mid new : SoftState) → new ≡ mid → IsAlike old mid → IsAlike old new
alike_is old mid new is alike = rw is alike

alike_same : (old new : SoftState) → new ≡ old → IsAlike old new
alike_same old new is = record { count = ap (λ (s : SoftState). s.count) is; active = ap active is }

ue_goes : (old new : SoftState) (event : UeEvent) → UeGoes old event new → IsAlike old new
ue_goes old new event goes = record { count = ap (λ (s : SoftState). s.count) goes.is; active = ap active goes.is }

-- over an event of the network controller that is no change of its configuration
rnc_goes : (old new : SoftState) (event : RncEvent) → ((planned : Planned) → event ≢ Change planned) → RncGoes old event new → IsAlike old new
rnc_goes old new event plain goes = record {
  count = ap (λ (s : SoftState). s.count) goes.is;
  active = ap active goes.is ∙ ap (λ course. course.state.planned) goes.goes.is ∙ rnc_lasting.stays old.rnc.state goes.goes.state event goes.goes.output plain goes.goes.step;
}

at_leg : (k : ℕ) (Does : LegState → LegState → List Line → Type 0) (old new : SoftState) (lines : List Line) → AtLeg k Does old new lines → IsAlike old new
at_leg k Does old new lines at = record { count = ap (λ (s : SoftState). s.count) at.is; active = ap active at.is }

may_take : (cfn set leg : ℕ) (octets : Option (List ℕ)) (old new : SoftState) (lines : List Line) → MayTake cfn set leg octets old new lines → IsAlike old new
may_take cfn set leg None old new lines takes = alike_same old new takes.0
may_take cfn set leg (Some octets) old new lines takes =
    ⊎_elim (λ taken. record { count = ap (λ (s : SoftState). s.count) taken.is; active = ap active taken.is }) (λ refused. alike_same old new refused.same) takes

gives_frame : (cfn set : ℕ) (old new : SoftState) (lines : List Line) → GivesFrame cfn set old new lines → IsAlike old new
gives_frame cfn set old new lines gives = ⊎_elim (λ none. alike_same old new none.stays.0) (λ combined. of_given (rnc_goes (given old set) new (IubFrame set combined.octets) (λ planned same. cc) combined.comes)) gives
  where
    of_given : IsAlike (given old set) new → IsAlike old new
    of_given alike = record { count = alike.count; active = alike.active }

where_over : (cfn : Option ℕ) (Does : ℕ → SoftState → SoftState → List Line → Type 0) (old new : SoftState) (lines : List Line) → ((c : ℕ) → Does c old new lines → IsAlike old new) → WhereOver cfn Does old new lines → IsAlike old new
where_over None Does old new lines alike stays = alike_same old new stays.0
where_over (Some c) Does old new lines alike does = alike c does

stage_stays : (stage : Stage) (old new : SoftState) (lines : List Line) → AtStage stage old new lines → IsAlike old new
stage_stays RncTick old new lines passes = rnc_goes old new Tick (λ planned same. cc) passes.0
stage_stays (IubDown leg set) old new lines passes = at_leg leg _ old new lines passes
stage_stays (RadioDown leg) old new lines passes = at_leg leg _ old new lines passes
stage_stays UeTick old new lines passes = alike_on old passes.mid new (ue_goes old passes.mid _ passes.hears.comes) (ue_goes passes.mid new _ passes.ticks.0)
stage_stays (RadioUp leg) old new lines passes = at_leg leg _ old new lines passes
stage_stays (IubUp set leg) old new lines passes =
    where_over (over (uplink_of old) set old.cfn) (λ cfn. TakesFrame cfn set leg) old new lines (λ cfn takes. may_take cfn set leg (iub_from (old.legs leg) set) old new lines takes) passes
stage_stays (Combine set) old new lines passes = where_over (over (uplink_of old) set old.cfn) (λ cfn. GivesFrame cfn set) old new lines (λ cfn gives. gives_frame cfn set old new lines gives) passes

event_stays : (old new : SoftState) (event : Event) (lines : List Line) → Happens old event new lines → IsAlike old new
event_stays old new (Offers Up b octets bits) lines happens = ue_goes old new _ happens.0
event_stays old new (Offers Down b octets bits) lines happens = rnc_goes old new (OfferedUnit b octets bits) (λ planned same. cc) happens.0
event_stays old new (Blocks Up c on) lines happens = ue_goes old new _ happens.0
event_stays old new (Blocks Down c on) lines happens = rnc_goes old new (BlockedCombination c on) (λ planned same. cc) happens.0
event_stays old new (Damages leg damage) lines happens = record { count = ap (λ (s : SoftState). s.count) happens.0; active = ap active happens.0 }

-- over a stage of a run
passed_stays : (run : Run) (soft : SoftState) (next : Option Stage) → IsAlike soft (passed_by run soft next).soft
passed_stays run soft None = record { count = refl; active = refl }
passed_stays run soft (Some stage) = record { count = refl; active = refl }

pass_stays : (old new : Run) (text : List ℕ) → PassesStage old new text → IsAlike old.soft new.soft
pass_stays old new text passes =
    let next : Option Stage = next_stage old.soft.count old.stage in
    let passed : SoftState = (passed_by old passes.soft next).soft in
    alike_is old.soft passed new.soft (ap (λ (r : Run). r.soft) passes.goes_on) (alike_on old.soft passes.soft passed (stage_stays old.stage old.soft passes.soft passes.lines passes.passes) (passed_stays old passes.soft next))

takes_stays : (said : Said) (old new : Run) (text : List ℕ) → Takes said old new text → IsAlike old.soft new.soft
takes_stays (OneEvent event) old new text takes = alike_is old.soft takes.soft new.soft (ap (λ (r : Run). r.soft) takes.goes_on) (event_stays old.soft takes.soft event takes.lines takes.happens)
takes_stays (Frames count) old new text takes = pass_stays (record old { left = count }) new text takes

resumes_stay : (count : ℕ) (old new : Run) (text : List ℕ) → Resumes soft_steps count old new text → IsAlike old.soft new.soft
resumes_stay zero old new text resumes = alike_same old.soft new.soft (ap (λ (r : Run). r.soft) resumes.0)
resumes_stay (suc count) old new text (mid, (front, (last, (first, step, whole)))) = alike_on old.soft mid.soft new.soft (resumes_stay count old mid front first) (pass_stays mid new last step)

steps_stay : (old new : Run) (line text : List ℕ) → LineSteps soft_steps old line new text → IsAlike old.soft new.soft
steps_stay old new line text steps = alike_on old.soft steps.mid.soft new.soft (takes_stays steps.handles.said old steps.mid steps.first steps.handles.takes) (resumes_stay _ steps.mid new steps.rest steps.resumes)

line_stays : (old new : Run) (line text : List ℕ) → HandlesLine soft_lines old line new text → IsAlike old.soft new.soft
line_stays old new line text handles = cases (is_empty line) refl
  where
    cases : (b : Bool) → is_empty line ≡ b → IsAlike old.soft new.soft
    cases true empty = let own : (new ≡ old) × (text ≡ []) = rw empty at handles in alike_same old.soft new.soft (ap (λ (r : Run). r.soft) own.0)
    cases false words = let own : LineSteps soft_steps old line new text = rw words at handles in steps_stay old new line text own

pub soft_lines_stay : (old new : Run) (lines : List (List ℕ)) (text : List ℕ) → HandlesLines soft_lines old lines new text → IsAlike old.soft new.soft
soft_lines_stay old new [] text handles = alike_same old.soft new.soft (ap (λ (r : Run). r.soft) handles.0)
soft_lines_stay old new (line ∷ lines) text (mid, (first, (rest, (handles, more, whole)))) = alike_on old.soft mid.soft new.soft (line_stays old mid line first handles) (soft_lines_stay mid new lines rest more)
