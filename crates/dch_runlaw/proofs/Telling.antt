-- The lines of a run in soft handover: those on units are what the two ends have reported of them.
use Rattle.std.proofs.Common.{◌≡◌, ◌∙◌, ◌++◌, ℕ, List, [], ◌∷◌, Option, Some, None, append_assoc, append-nil, refl, sym, ap, subst, inl, inr}
use Rattle.dch_types.specs.declared.channel.Dir.{Dir}
use Rattle.dch_types.specs.declared.channel.Dir.TheVariants.{Up, Down}
use Rattle.dch_node.specs.Lines.{Line}
use Rattle.dch_node.specs.Values.{Output}
use Rattle.dch_damage.specs.Damage.{iub_after, radio_after}
use Rattle.dch_linkcmd.specs.NodebState.{DownlinkDue, Event as NodeBEvent, IubFrame as IubFrameDown, UplinkFrame}
use Rattle.dch_linkcmd.specs.UeState.{BlockedCombination as UeBlocked, DownlinkFrame, Event as UeEvent, OfferedUnit as UeOffered, State as UeState, Tick as UeTicks}
use Rattle.dch_linkcmd.specs.RncState.{BlockedCombination as RncBlocked, Event as RncEvent, IubFrame as IubFrameUp, OfferedUnit as RncOffered, State as RncState, Tick as RncTicks}
use Rattle.dch_linkcmd.specs.Courses.{Course}
use Rattle.dch_linkcmd.specs.SoftEvents.{BlockedCombination, Damages, Event, Happens, OfferedUnit}
use Rattle.dch_linkcmd.specs.LinkLegs.{LegGoes, LegState, MayGoDown, iub_from}
use Rattle.dch_linkcmd.specs.SoftPassing.{next_stage}
use Rattle.dch_linkcmd.specs.LinkSoft.{SoftState, given, over, uplink_of}
use Rattle.dch_linkcmd.specs.SoftStages.{AtStage, GivesFrame, MayTake, RncGoes, TakesFrame, UeGoes, WhereOver}
use Rattle.dch_linkcmd.specs.soft_stage.Stage.{Stage}
use Rattle.dch_linkcmd.specs.soft_stage.Stage.TheVariants.{RncTick, IubDown, RadioDown, UeTick, RadioUp, IubUp, Combine}
use Rattle.dch_runlaw.specs.Directions.{lines_on}
use Rattle.dch_runlaw.specs.Lines.{lines_of}
use Rattle.dch_runlaw.proofs.Directions.{off_is, on-append, on_is}
use Rattle.dch_runlaw.proofs.BlocksTaken.{lines-append}
use Rattle.dch_runlaw.proofs.TextEnds.{rnc_own, ue_own}
use Rattle.dch_runlaw.proofs.TextRadio.{AreRadio, node_b_radio, radio_off}
use Rattle.dch_runlaw.specs.SoftRuns.{Between, Move, Next, Point, Runs, Steps, behind}
use Rattle.dch_runlaw.specs.Told.{IsTold}
use Rattle.dch_runlaw.proofs.Changes.{IsFrameChange, leg_step, rnc_lines, rnc_step, ue_lines, ue_step, up_change}

-- lines that are on no unit, while nothing is said at the ends
off_told : (old new : SoftState) (lines : List Line) → new.ue ≡ old.ue → new.rnc ≡ old.rnc → AreRadio lines → IsTold old new lines
off_told old new lines ue rnc radio = record {
  up = λ b. ap (λ (c : Course RncState RncEvent). lines_of b c.lines) rnc ∙ sym (ap (λ (l : List Line). lines_of b old.rnc.lines ++ l) (radio_off Up b lines radio) ∙ append-nil (lines_of b old.rnc.lines));
  down = λ b. ap (λ (c : Course UeState UeEvent). lines_of b c.lines) ue ∙ sym (ap (λ (l : List Line). lines_of b old.ue.lines ++ l) (radio_off Down b lines radio) ∙ append-nil (lines_of b old.ue.lines));
}

-- lines of an end
ue_told : (old new : SoftState) (event : UeEvent) (lines : List Line) → UeGoes old event new → lines ≡ new.ue.last.lines → IsTold old new lines
ue_told old new event lines goes are =
    let own = ue_own old.ue.state event new.ue.state new.ue.last (ue_step old new event goes) in
    record {
      up = λ b. ap (λ (s : SoftState). lines_of b s.rnc.lines) goes.is
          ∙ sym (ap (λ (l : List Line). lines_of b old.rnc.lines ++ l) (ap (lines_on Up b) are ∙ off_is Down Up b new.ue.last.lines refl own.goes) ∙ append-nil (lines_of b old.rnc.lines));
      down = λ b. ap (lines_of b) (ue_lines old new event goes) ∙ lines-append b old.ue.lines new.ue.last.lines
          ∙ sym (ap (λ (l : List Line). lines_of b old.ue.lines ++ l) (ap (lines_on Down b) are ∙ on_is Down b new.ue.last.lines own.goes));
    }

rnc_told : (old new : SoftState) (event : RncEvent) (lines : List Line) → RncGoes old event new → lines ≡ new.rnc.last.lines → IsTold old new lines
rnc_told old new event lines goes are =
    let own = rnc_own old.rnc.state event new.rnc.state new.rnc.last (rnc_step old new event goes) in
    record {
      up = λ b. ap (lines_of b) (rnc_lines old new event goes) ∙ lines-append b old.rnc.lines new.rnc.last.lines
          ∙ sym (ap (λ (l : List Line). lines_of b old.rnc.lines ++ l) (ap (lines_on Up b) are ∙ on_is Up b new.rnc.last.lines own.goes));
      down = λ b. ap (λ (s : SoftState). lines_of b s.ue.lines) goes.is
          ∙ sym (ap (λ (l : List Line). lines_of b old.ue.lines ++ l) (ap (lines_on Down b) are ∙ off_is Up Down b new.rnc.last.lines refl own.goes) ∙ append-nil (lines_of b old.ue.lines));
    }

-- one part behind another
after : (dir : Dir) (b : ℕ) (old next new xs ys : List Line) → lines_of b next ≡ lines_of b old ++ lines_on dir b xs → lines_of b new ≡ lines_of b next ++ lines_on dir b ys → lines_of b new ≡ lines_of b old ++ lines_on dir b (xs ++ ys)
after dir b old next new xs ys e f = f ∙ ap (λ l. l ++ lines_on dir b ys) e ∙ append_assoc (lines_of b old) (lines_on dir b xs) (lines_on dir b ys) ∙ ap (λ l. lines_of b old ++ l) (sym (on-append dir b xs ys))

both_told : (old next new : SoftState) (xs ys : List Line) → IsTold old next xs → IsTold next new ys → IsTold old new (xs ++ ys)
both_told old next new xs ys first later = record {
  up = λ b. after Up b old.rnc.lines next.rnc.lines new.rnc.lines xs ys (first.up b) (later.up b);
  down = λ b. after Down b old.ue.lines next.ue.lines new.ue.lines xs ys (first.down b) (later.down b);
}

-- between two radio frames
between_told : (old : SoftState) (event : Event) (new : SoftState) (lines : List Line) → Happens old event new lines → IsTold old new lines
between_told old (OfferedUnit Up b octets bits) new lines happens = ue_told old new (UeOffered b octets bits) lines happens.0 happens.1
between_told old (OfferedUnit Down b octets bits) new lines happens = rnc_told old new (RncOffered b octets bits) lines happens.0 happens.1
between_told old (BlockedCombination Up c on) new lines happens = ue_told old new (UeBlocked c on) lines happens.0 happens.1
between_told old (BlockedCombination Down c on) new lines happens = rnc_told old new (RncBlocked c on) lines happens.0 happens.1
between_told old (Damages leg damage) new lines happens = off_told old new lines (ap (λ (s : SoftState). s.ue) happens.0) (ap (λ (s : SoftState). s.rnc) happens.0) (subst AreRadio (sym happens.1) tt)

-- in a stage
leg_radio : (old new : LegState) (event : NodeBEvent) (lines : List Line) → LegGoes old event new lines → AreRadio lines
leg_radio old new event lines goes =
    let last : new.node_b.last.lines ≡ goes.node_b.last.lines = ap (λ (l : LegState). l.node_b.last.lines) goes.is in
    subst AreRadio (last ∙ sym goes.reported) (node_b_radio old.node_b.state event new.node_b.state new.node_b.last (leg_step old new event lines goes))

down_radio : (set : ℕ) (octets : Option (List ℕ)) (old new : LegState) (lines : List Line) → MayGoDown set octets old new lines → AreRadio lines
down_radio set None old new lines goes = subst AreRadio (sym goes.1) tt
down_radio set (Some octets) old new lines goes = leg_radio old new (IubFrameDown set octets) lines goes

take_radio : (cfn set leg : ℕ) (octets : Option (List ℕ)) (old new : SoftState) (lines : List Line) → MayTake cfn set leg octets old new lines → AreRadio lines
take_radio cfn set leg None old new lines takes = subst AreRadio (sym takes.1) tt
take_radio cfn set leg (Some octets) old new lines (inl taken) = subst AreRadio (sym taken.quiet) tt
take_radio cfn set leg (Some octets) old new lines (inr refused) = subst AreRadio (sym refused.reported) (refl, tt)

up_radio : (started : Option ℕ) (set leg : ℕ) (old new : SoftState) (lines : List Line) → WhereOver started (λ cfn. TakesFrame cfn set leg) old new lines → AreRadio lines
up_radio None set leg old new lines takes = subst AreRadio (sym takes.1) tt
up_radio (Some cfn) set leg old new lines takes = take_radio cfn set leg (iub_from (old.legs leg) set) old new lines takes

combined_told : (started : Option ℕ) (set : ℕ) (old new : SoftState) (lines : List Line) → WhereOver started (λ cfn. GivesFrame cfn set) old new lines → IsTold old new lines
combined_told None set old new lines gives = off_told old new lines (ap (λ (s : SoftState). s.ue) gives.0) (ap (λ (s : SoftState). s.rnc) gives.0) (subst AreRadio (sym gives.1) tt)
combined_told (Some cfn) set old new lines (inl none) = off_told old new lines (ap (λ (s : SoftState). s.ue) none.stays.0) (ap (λ (s : SoftState). s.rnc) none.stays.0) (subst AreRadio (sym none.stays.1) tt)
combined_told (Some cfn) set old new lines (inr frame) =
    let told : IsTold (given old set) new new.rnc.last.lines = rnc_told (given old set) new (IubFrameUp set frame.octets) new.rnc.last.lines frame.comes refl in
    subst (IsTold old new) (sym frame.all) (record { up = told.up; down = told.down })

stage_told : (stage : Stage) (old new : SoftState) (lines : List Line) → AtStage stage old new lines → IsTold old new lines
stage_told RncTick old new lines passes = rnc_told old new RncTicks lines passes.0 passes.1
stage_told (IubDown leg set) old new lines passes =
    off_told old new lines (ap (λ (s : SoftState). s.ue) passes.is) (ap (λ (s : SoftState). s.rnc) passes.is) (down_radio set (iub_after (old.legs leg).damage Down set (old.rnc.last.iub set)) (old.legs leg) passes.leg lines passes.does)
stage_told (RadioDown leg) old new lines passes =
    off_told old new lines (ap (λ (s : SoftState). s.ue) passes.is) (ap (λ (s : SoftState). s.rnc) passes.is) (leg_radio (old.legs leg) passes.leg DownlinkDue lines passes.does)
stage_told UeTick old new lines passes =
    let mid : SoftState = passes.mid in
    let event : UeEvent = DownlinkFrame passes.hears.heard in
    let kept = ue_step old mid event passes.hears.comes in
    let none : [] ≡ mid.ue.last.lines = sym (ap (λ (o : Output). o.lines) kept.1) in
    both_told old mid new [] lines (ue_told old mid event [] passes.hears.comes none) (ue_told mid new UeTicks lines passes.ticks.0 passes.ticks.1)
stage_told (RadioUp leg) old new lines passes =
    off_told old new lines (ap (λ (s : SoftState). s.ue) passes.is) (ap (λ (s : SoftState). s.rnc) passes.is) (leg_radio (old.legs leg) passes.leg (UplinkFrame (radio_after (old.legs leg).damage Up old.ue.last.sent)) lines passes.does)
stage_told (IubUp set leg) old new lines passes =
    let change : IsFrameChange old new = up_change (over (uplink_of old) set old.cfn) set leg old new lines passes in
    off_told old new lines change.ue change.rnc (up_radio (over (uplink_of old) set old.cfn) set leg old new lines passes)
stage_told (Combine set) old new lines passes = combined_told (over (uplink_of old) set old.cfn) set old new lines passes

-- a move, and a run
behind_told : (old soft : SoftState) (next : Option Stage) (lines : List Line) → IsTold old soft lines → IsTold old (behind soft next).soft lines
behind_told old soft None lines told = record { up = told.up; down = told.down }
behind_told old soft (Some next) lines told = told

step_told : (move : Move) (old new : Point) (lines : List Line) → Steps old move new lines → IsTold old.soft new.soft lines
step_told (Between event) old new lines step = subst (λ (p : Point). IsTold old.soft p.soft lines) (sym step.is) (between_told old.soft event step.soft lines step.happens)
step_told Next old new lines step = subst (λ (p : Point). IsTold old.soft p.soft lines) (sym step.is) (behind_told old.soft step.soft (next_stage old.soft.count old.stage) lines (stage_told old.stage old.soft step.soft lines step.passes))

none_told : (soft : SoftState) → IsTold soft soft []
none_told soft = record { up = λ b. sym (append-nil (lines_of b soft.rnc.lines)); down = λ b. sym (append-nil (lines_of b soft.ue.lines)) }

pub run_told : (old : Point) (moves : List Move) (new : Point) (lines : List Line) → Runs old moves new lines → IsTold old.soft new.soft lines
run_told old [] new lines run = subst (IsTold old.soft new.soft) (sym run.1) (subst (λ (p : Point). IsTold old.soft p.soft []) (sym run.0) (none_told old.soft))
run_told old (move ∷ moves) new lines run =
    subst (IsTold old.soft new.soft) (sym run.reported) (both_told old.soft run.next.soft new.soft run.own run.rest (step_told move old run.next run.own run.step) (run_told run.next moves new run.rest run.later))
