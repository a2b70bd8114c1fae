-- The configuration stays over the lines of `link` where no second one is to come.
use Rattle.std.proofs.Common.{◌≡◌, ◌∙◌, ℕ, zero, suc, List, [], ◌∷◌, Bool, true, false, refl, ap, sym, subst, inl, inr}
use Rattle.std.specs.Prelude.{Option, Some, None}
use Rattle.dch_lines.specs.LineTexts.{HandlesLine, HandlesLines, is_empty}
use Rattle.dch_linkcmd.specs.Stepping.{LineSteps, Resumes}
use Rattle.dch_node.specs.Lines.{Line}
use Rattle.dch_node.specs.Values.{Output}
use Rattle.dch_accept.specs.Plans.{Planned}
use Rattle.dch_types.specs.declared.channel.Dir.TheVariants.{Up, Down}
use Rattle.dch_link.specs.Damage.{iub_after}
use Rattle.dch_link.specs.UeState.{Event as UeEvent}
use Rattle.dch_link.specs.NodebState.{Event as NodeBEvent}
use Rattle.dch_link.specs.RncState.{BlockedCombination, Change, Event as RncEvent, IubFrame, OfferedUnit, State as RncState, Tick}
use Rattle.dch_link.specs.RncSteps.{Steps}
use Rattle.dch_link.specs.Events.{BlockedCombination as Blocks, Damages, Event, Happens, OfferedUnit as Offers}
use Rattle.dch_link.specs.Link.{LinkState, active}
use Rattle.dch_link.specs.Stages.{AtStage, MayGoDown, MayGoUp, NodeBGoes, RncGoes, UeGoes}
use Rattle.dch_link.specs.Passing.{next_stage}
use Rattle.dch_link.specs.Within.{RncWithin}
use Rattle.dch_link.specs.declared.stage.Stage.{Stage}
use Rattle.dch_link.specs.declared.stage.Stage.TheVariants.{RncTick, IubDown, RadioDown, UeTick, RadioUp, IubUp}
use Rattle.dch_linkcmd.specs.LineEvents.{Frames, OneEvent, Said}
use Rattle.dch_linkcmd.specs.Rules.{MayChange, PassesNext, PassesStage, Takes, link_lines, link_steps}
use Rattle.dch_linkcmd.specs.Run.{Run, config_of, passed_by}

rnc_stays : (old new : RncState) (event : RncEvent) (output : Output) → RncWithin event → Steps old event new output → new.planned ≡ old.planned
rnc_stays old new (OfferedUnit b octets bits) output within step = ap (λ (s : RncState). s.planned) step.state
rnc_stays old new (BlockedCombination c on) output within step = ap (λ (s : RncState). s.planned) step.0
rnc_stays old new (IubFrame set octets) output within (inl read) = ap (λ (s : RncState). s.planned) read.state
rnc_stays old new (IubFrame set octets) output within (inr refused) = ap (λ (s : RncState). s.planned) refused.state
rnc_stays old new Tick output within step = ap (λ (s : RncState). s.planned) step.state
rnc_stays old new (Change second) output within step = absurd within

ue_goes : (old new : LinkState) (event : UeEvent) → UeGoes old event new → active new ≡ active old
ue_goes old new event goes = ap active goes.is

node_b_goes : (old new : LinkState) (event : NodeBEvent) → NodeBGoes old event new → active new ≡ active old
node_b_goes old new event goes = ap active goes.is

rnc_goes : (old new : LinkState) (event : RncEvent) → RncWithin event → RncGoes old event new → active new ≡ active old
rnc_goes old new event within goes = ap active goes.is ∙ ap (λ course. course.state.planned) goes.goes.is ∙ rnc_stays old.rnc.state goes.goes.state event goes.goes.output within goes.goes.step

down_stays : (set : ℕ) (octets : Option (List ℕ)) (old new : LinkState) (lines : List Line) → MayGoDown set octets old new lines → active new ≡ active old
down_stays set None old new lines goes = ap active goes.0
down_stays set (Some octets) old new lines goes = node_b_goes old new _ goes.0

up_stays : (set : ℕ) (octets : Option (List ℕ)) (old new : LinkState) (lines : List Line) → MayGoUp set octets old new lines → active new ≡ active old
up_stays set None old new lines goes = ap active goes.0
up_stays set (Some octets) old new lines goes = rnc_goes old new (IubFrame set octets) tt goes.comes

pub stage_stays : (stage : Stage) (old new : LinkState) (lines : List Line) → AtStage stage old new lines → active new ≡ active old
stage_stays RncTick old new lines passes = rnc_goes old new Tick tt passes.0
stage_stays (IubDown set) old new lines passes = down_stays set (iub_after old.damage Down set (old.rnc.last.iub set)) old new lines passes
stage_stays RadioDown old new lines passes = node_b_goes old new _ passes.0
stage_stays UeTick old new lines passes = ue_goes passes.mid new _ passes.ticks ∙ ue_goes old passes.mid _ passes.comes
stage_stays RadioUp old new lines passes = node_b_goes old new _ passes.0
stage_stays (IubUp set) old new lines passes = up_stays set (iub_after old.damage Up set (old.node_b.last.iub set)) old new lines passes

pub event_stays : (old new : LinkState) (event : Event) (lines : List Line) → Happens old event new lines → active new ≡ active old
event_stays old new (Offers Up b octets bits) lines happens = ue_goes old new _ happens.0
event_stays old new (Offers Down b octets bits) lines happens = rnc_goes old new (OfferedUnit b octets bits) tt happens.0
event_stays old new (Blocks Up c on) lines happens = ue_goes old new _ happens.0
event_stays old new (Blocks Down c on) lines happens = rnc_goes old new (BlockedCombination c on) tt happens.0
event_stays old new (Damages damage) lines happens = ap active happens.0

-- over a stage of a run
passed_stays : (run : Run) (link : LinkState) (next : Option Stage) → active (passed_by run link next).link ≡ active link
passed_stays run link None = refl
passed_stays run link (Some stage) = refl

pub pass_stays : (old new : Run) (text : List ℕ) → PassesStage old new text → config_of new ≡ config_of old
pass_stays old new text passes =
    ap config_of passes.goes_on ∙ ap (λ (p : Planned). p.config) (passed_stays old passes.link (next_stage old.stage) ∙ stage_stays old.stage old.link passes.link passes.lines passes.passes)

-- over a stage none is to come that wasn't
passed_second : (run : Run) (link : LinkState) (next : Option Stage) → (passed_by run link next).second ≡ run.second
passed_second run link None = refl
passed_second run link (Some stage) = refl

pub pass_second : (old new : Run) (text : List ℕ) → PassesStage old new text → new.second ≡ old.second
pass_second old new text passes = ap (λ (r : Run). r.second) passes.goes_on ∙ passed_second old passes.link (next_stage old.stage)

-- where none is to come none becomes active
pub none_changes : (old new : Run) → old.second ≡ None → MayChange old new → new ≡ old
none_changes old new none (inl makes) = let waits : None ≡ Some makes.later = sym none ∙ makes.begins.due.waits in cc waits
none_changes old new none (inr waits) = waits.same

pub only_stage : (old new : Run) (text : List ℕ) → old.second ≡ None → PassesNext old new text → PassesStage old new text
only_stage old new text none passes = subst (λ (r : Run). PassesStage r new text) (none_changes old passes.mid none passes.changes) passes.passes

-- what stays then
pub record Stays (old new : Run) : Type 0 where
  pub config : config_of new ≡ config_of old
  pub none : new.second ≡ None

next_stays : (old new : Run) (text : List ℕ) → old.second ≡ None → PassesNext old new text → Stays old new
next_stays old new text none passes = let only = only_stage old new text none passes in record { config = pass_stays old new text only; none = pass_second old new text only ∙ none }

stays_on : (old mid new : Run) → Stays old mid → Stays mid new → Stays old new
stays_on old mid new one two = record { config = two.config ∙ one.config; none = two.none }

same_stays : (old new : Run) → old.second ≡ None → new ≡ old → Stays old new
same_stays old new none same = record { config = ap config_of same; none = ap (λ (r : Run). r.second) same ∙ none }

takes_stays : (said : Said) (old new : Run) (text : List ℕ) → old.second ≡ None → Takes said old new text → Stays old new
takes_stays (OneEvent event) old new text none takes = record {
  config = ap config_of takes.goes_on ∙ ap (λ (p : Planned). p.config) (event_stays old.link takes.link event takes.lines takes.happens);
  none = ap (λ (r : Run). r.second) takes.goes_on ∙ none;
}
takes_stays (Frames count) old new text none takes = let stays = next_stays (record old { left = count }) new text none takes in record { config = stays.config; none = stays.none }

resumes_stay : (count : ℕ) (old new : Run) (text : List ℕ) → old.second ≡ None → Resumes link_steps count old new text → Stays old new
resumes_stay zero old new text none resumes = same_stays old new none resumes.0
resumes_stay (suc count) old new text none (mid, (front, (last, (first, step, whole)))) =
    let before : Stays old mid = resumes_stay count old mid front none first in
    stays_on old mid new before (next_stays mid new last before.none step)

steps_stay : (old new : Run) (line text : List ℕ) → old.second ≡ None → LineSteps link_steps old line new text → Stays old new
steps_stay old new line text none steps =
    let first : Stays old steps.mid = takes_stays steps.handles.said old steps.mid steps.first none steps.handles.takes in
    stays_on old steps.mid new first (resumes_stay _ steps.mid new steps.rest first.none steps.resumes)

pub line_stays : (old new : Run) (line text : List ℕ) → old.second ≡ None → HandlesLine link_lines old line new text → Stays old new
line_stays old new line text none handles = cases (is_empty line) refl
  where
    cases : (b : Bool) → is_empty line ≡ b → Stays old new
    cases true empty = let own : (new ≡ old) × (text ≡ []) = rw empty at handles in same_stays old new none own.0
    cases false words = let own : LineSteps link_steps old line new text = rw words at handles in steps_stay old new line text none own

pub link_lines_stay : (old new : Run) (lines : List (List ℕ)) (text : List ℕ) → old.second ≡ None → HandlesLines link_lines old lines new text → Stays old new
link_lines_stay old new [] text none handles = same_stays old new none handles.0
link_lines_stay old new (line ∷ lines) text none (mid, (first, (rest, (handles, more, whole)))) =
    let one : Stays old mid = line_stays old mid line first none handles in
    stays_on old mid new one (link_lines_stay mid new lines rest one.none more)
