-- The rows of the text of a run of `soft` that hand up units are those of its lines.
use Rattle.std.proofs.Common.{◌≡◌, ◌<◌, ◌≤◌, ◌^◌, ◌∙◌, ◌++◌, ℕ, List, [], ◌∷◌, Bool, Option, Some, None, length, arith, refl, ap, ap₂, sym, subst, append-nil, length-append, inl, inr}
use Rattle.std.proofs.lemmas.List.{nil_from_length}
use Rattle.dch_types.specs.declared.channel.Dir.{Dir}
use Rattle.dch_types.specs.declared.channel.Dir.TheVariants.{Up, Down}
use Rattle.dch_script.specs.Lines.{lines_of as rows, rest_of}
use Rattle.dch_node.specs.Lines.{Line}
use Rattle.dch_script.specs.LineText.{text_of}
use Rattle.dch_nodecmd.specs.RncState.{BlockedCombination as RncBlocked, Event as RncEvent, IubFrame as IubFrameUp, OfferedUnit as RncOffered, Tick as RncTicks}
use Rattle.dch_lines.specs.Shown.{shown}
use Rattle.dch_nodecmd.specs.UeState.{BlockedCombination as UeBlocked, DownlinkFrame, Event as UeEvent, OfferedUnit as UeOffered, Tick as UeTicks}
use Rattle.dch_gen.specs.LinkSoft.{SoftState, given, over, uplink_of}
use Rattle.dch_gen.specs.SoftEvents.{BlockedCombination, Damages, Event, Happens, OfferedUnit}
use Rattle.dch_gen.specs.SoftPassing.{leg_of, next_stage}
use Rattle.dch_gen.specs.SoftStages.{AtStage, GivesFrame, RncGoes, UeGoes, WhereOver}
use Rattle.dch_gen.specs.soft_stage.Stage.{Stage}
use Rattle.dch_gen.specs.soft_stage.Stage.TheVariants.{RncTick, IubDown, RadioDown, UeTick, RadioUp, IubUp, Combine}
use Rattle.dch_runlaw.specs.Led.{led, led_lines}
use Rattle.dch_runlaw.specs.Directions.{lines_on}
use Rattle.dch_runlaw.specs.Lines.{lines_of}
use Rattle.dch_runlaw.specs.Rows.{AreSmall, got_rows, got_words, gots, is_got, row_of, rows_of, starts_with}
use Rattle.dch_runlaw.specs.SoftRuns.{Between, HappensBetween, Move, Next, Passes, Point, Runs, behind}
use Rattle.dch_runlaw.specs.SoftScripts.{shown_in}
use Rattle.dch_runlaw.specs.Told.{IsTold}
use Rattle.dch_runlaw.proofs.Changes.{between_stays, rnc_step, set_change, stage_steady, ue_step, up_change}
use Rattle.dch_runlaw.proofs.Rows.{rows_got}
use Rattle.dch_runlaw.proofs.Small.{gots_on}
use Rattle.dch_runlaw.proofs.Sublists.{either}
use Rattle.dch_runlaw.proofs.Telling.{run_told}
use Rattle.dch_runlaw.proofs.TextEnds.{rnc_own, ue_own, ue_stays}
use Rattle.dch_runlaw.proofs.TextRows.{text_rows}
use Rattle.dch_runlaw.proofs.TextShowing.{seen_got, shown_rows}
use Rattle.dch_runlaw.specs.Filtering.{seen}
use Rattle.dch_top.proofs.LedRows.{AreRows, led_are, led_none, rows_on}

-- a text consists of whole rows, and those that hand up units of a bearer are those of these lines
pub record HasRows (dir : Dir) (b : ℕ) (text : List ℕ) (lines : List Line) : Type 0 where
  pub whole : rest_of text ≡ []
  pub got : got_rows dir b (rows text) ≡ rows_of (gots dir b lines)

-- one text behind another
got_rows-append : (dir : Dir) (b : ℕ) (xs ys : List (List ℕ)) → got_rows dir b (xs ++ ys) ≡ got_rows dir b xs ++ got_rows dir b ys
got_rows-append dir b [] ys = refl
got_rows-append dir b (x ∷ xs) ys = either (starts_with (got_words dir b) x) (λ e. rw e (ap (λ l. x ∷ l) (got_rows-append dir b xs ys))) (λ e. rw e (got_rows-append dir b xs ys))

rows_of-append : (dir : Dir) (b : ℕ) (xs ys : List Line) → rows_of (gots dir b (xs ++ ys)) ≡ rows_of (gots dir b xs) ++ rows_of (gots dir b ys)
rows_of-append dir b [] ys = refl
rows_of-append dir b (x ∷ xs) ys = either (is_got dir b x) (λ e. rw e (ap (λ l. row_of x ∷ l) (rows_of-append dir b xs ys))) (λ e. rw e (rows_of-append dir b xs ys))

both_rows : (dir : Dir) (b : ℕ) (t u : List ℕ) (xs ys : List Line) → HasRows dir b t xs → HasRows dir b u ys → HasRows dir b (t ++ u) (xs ++ ys)
both_rows dir b t u xs ys first later =
    let on = rows_on t u first.whole in
    record {
      whole = on.1 ∙ later.whole;
      got = ap (got_rows dir b) on.0 ∙ got_rows-append dir b (rows t) (rows u) ∙ ap₂ (λ k l. k ++ l) first.got later.got ∙ sym (rows_of-append dir b xs ys);
    }

-- lines of the terminal or the network controller
own_rows : (quiet : Bool) (dir : Dir) (b : ℕ) (lines : List Line) → b < 2 ^ 64 → AreSmall lines → HasRows dir b (shown quiet (text_of lines)) lines
own_rows quiet dir b lines low small =
    let all = shown_rows quiet lines in
    record { whole = all.1; got = ap (got_rows dir b) all.0 ∙ seen_got quiet dir b lines ∙ rows_got dir b lines low small }

-- lines of a leg, which are on no unit
are_rows : (lines : List Line) → AreRows (rows_of lines)
are_rows [] = tt
are_rows (x ∷ lines) = let own = text_rows (x ∷ []) in (record { own = own.0; whole = own.1 }, are_rows lines)

leg_rows : (k : ℕ) (quiet : Bool) (dir : Dir) (b : ℕ) (lines : List Line) → lines_on dir b lines ≡ [] → HasRows dir b (led (Some k) (shown quiet (text_of lines))) lines
leg_rows k quiet dir b lines off =
    let same : rows (shown quiet (text_of lines)) ≡ rows_of (seen quiet lines) = (shown_rows quiet lines).0 in
    let are = led_are k (rows_of (seen quiet lines)) (are_rows (seen quiet lines)) in
    record {
      whole = ap (λ r. rest_of (led_lines k r)) same ∙ are.1;
      got = ap (λ r. got_rows dir b (rows (led_lines k r))) same ∙ ap (got_rows dir b) are.0 ∙ led_none dir b k (rows_of (seen quiet lines)) ∙ sym (ap rows_of (gots_on dir b lines ∙ ap (gots dir b) off));
    }

-- the two ends have as few bearers as a good configuration
pub record AreFew (soft : SoftState) : Type 0 where
  pub ue : length soft.ue.state.planned.config.bearers ≤ 16
  pub rnc : length soft.rnc.state.planned.config.bearers ≤ 16

few_stay : (old new : SoftState) → new.ue.state.planned ≡ old.ue.state.planned → new.rnc.state.planned ≡ old.rnc.state.planned → AreFew old → AreFew new
few_stay old new ue rnc few = record { ue = rw ue few.ue; rnc = rw rnc few.rnc }

-- a step of an end
ue_small : (old new : SoftState) (event : UeEvent) (lines : List Line) → AreFew old → UeGoes old event new → lines ≡ new.ue.last.lines → AreSmall lines
ue_small old new event lines few goes are = subst AreSmall (sym are) ((ue_own old.ue.state event new.ue.state new.ue.last (ue_step old new event goes)).small few.ue)

rnc_small : (old new : SoftState) (event : RncEvent) (lines : List Line) → AreFew old → RncGoes old event new → lines ≡ new.rnc.last.lines → AreSmall lines
rnc_small old new event lines few goes are = subst AreSmall (sym are) ((rnc_own old.rnc.state event new.rnc.state new.rnc.last (rnc_step old new event goes)).small few.rnc)

combined_small : (started : Option ℕ) (set : ℕ) (old new : SoftState) (lines : List Line) → AreFew old → WhereOver started (λ cfn. GivesFrame cfn set) old new lines → AreSmall lines
combined_small None set old new lines few gives = subst AreSmall (sym gives.1) tt
combined_small (Some cfn) set old new lines few (inl none) = subst AreSmall (sym none.stays.1) tt
combined_small (Some cfn) set old new lines few (inr frame) =
    subst AreSmall (sym frame.all) (tt, rnc_small (given old set) new (IubFrameUp set frame.octets) new.rnc.last.lines (record { ue = few.ue; rnc = few.rnc }) frame.comes refl)

heard_stays : (old mid : SoftState) (event : UeEvent) → UeGoes old event mid → mid.rnc.state.planned ≡ old.rnc.state.planned
heard_stays old mid event goes = ap (λ (s : SoftState). s.rnc.state.planned) goes.is

-- a stage that is about no leg
stage_small : (stage : Stage) (old new : SoftState) (lines : List Line) → leg_of stage ≡ None → AreFew old → AtStage stage old new lines → AreSmall lines
stage_small RncTick old new lines is few passes = rnc_small old new RncTicks lines few passes.0 passes.1
stage_small (IubDown leg set) old new lines is few passes = let one : ◌≡◌ {A = Option ℕ} (Some leg) None = is in absurd (cc)
stage_small (RadioDown leg) old new lines is few passes = let one : ◌≡◌ {A = Option ℕ} (Some leg) None = is in absurd (cc)
stage_small UeTick old new lines is few passes =
    let event : UeEvent = DownlinkFrame passes.hears.heard in
    let stays = ue_stays old.ue.state event passes.mid.ue.state passes.mid.ue.last tt (ue_step old passes.mid event passes.hears.comes) in
    ue_small passes.mid new UeTicks lines (few_stay old passes.mid stays (heard_stays old passes.mid event passes.hears.comes) few) passes.ticks.0 passes.ticks.1
stage_small (RadioUp leg) old new lines is few passes = let one : ◌≡◌ {A = Option ℕ} (Some leg) None = is in absurd (cc)
stage_small (IubUp set leg) old new lines is few passes = let one : ◌≡◌ {A = Option ℕ} (Some leg) None = is in absurd (cc)
stage_small (Combine set) old new lines is few passes = combined_small (over (uplink_of old) set old.cfn) set old new lines few passes

-- a stage that is about a leg leaves both ends as they were, and so its lines are on no unit
leg_ends : (stage : Stage) (k : ℕ) (old new : SoftState) (lines : List Line) → leg_of stage ≡ Some k → AtStage stage old new lines → (new.ue ≡ old.ue) × (new.rnc ≡ old.rnc)
leg_ends RncTick k old new lines is passes = let none : ◌≡◌ {A = Option ℕ} None (Some k) = is in absurd (cc)
leg_ends (IubDown leg set) k old new lines is passes = (ap (λ (s : SoftState). s.ue) passes.is, ap (λ (s : SoftState). s.rnc) passes.is)
leg_ends (RadioDown leg) k old new lines is passes = (ap (λ (s : SoftState). s.ue) passes.is, ap (λ (s : SoftState). s.rnc) passes.is)
leg_ends UeTick k old new lines is passes = let none : ◌≡◌ {A = Option ℕ} None (Some k) = is in absurd (cc)
leg_ends (RadioUp leg) k old new lines is passes = (ap (λ (s : SoftState). s.ue) passes.is, ap (λ (s : SoftState). s.rnc) passes.is)
leg_ends (IubUp set leg) k old new lines is passes = let change = up_change (over (uplink_of old) set old.cfn) set leg old new lines passes in (change.ue, change.rnc)
leg_ends (Combine set) k old new lines is passes = let none : ◌≡◌ {A = Option ℕ} None (Some k) = is in absurd (cc)

behind_ends : (soft : SoftState) (next : Option Stage) → ((behind soft next).soft.ue ≡ soft.ue) × ((behind soft next).soft.rnc ≡ soft.rnc)
behind_ends soft None = (refl, refl)
behind_ends soft (Some next) = (refl, refl)

no_more : (xs ys : List Line) → xs ≡ xs ++ ys → ys ≡ []
no_more xs ys same = nil_from_length ys (omega (arith, ap length same, length-append xs ys))

leg_off : (old new : Point) (lines : List Line) (k : ℕ) → leg_of old.stage ≡ Some k → Passes old new lines → (dir : Dir) (b : ℕ) → lines_on dir b lines ≡ []
leg_off old new lines k is step dir b = of_dir dir
  where
    told : IsTold old.soft new.soft lines
    told = run_told old (Next ∷ []) new lines (record { next = new; own = lines; rest = []; step = step; later = (refl, refl); reported = sym (append-nil lines) })

    ue : new.soft.ue ≡ old.soft.ue
    ue = ap (λ (p : Point). p.soft.ue) step.is ∙ (behind_ends step.soft (next_stage old.soft.count old.stage)).0 ∙ (leg_ends old.stage k old.soft step.soft lines is step.passes).0

    rnc : new.soft.rnc ≡ old.soft.rnc
    rnc = ap (λ (p : Point). p.soft.rnc) step.is ∙ (behind_ends step.soft (next_stage old.soft.count old.stage)).1 ∙ (leg_ends old.stage k old.soft step.soft lines is step.passes).1

    of_dir : (dir : Dir) → lines_on dir b lines ≡ []
    of_dir Up = no_more (lines_of b old.soft.rnc.lines) (lines_on Up b lines) (ap (λ r. lines_of b r.lines) (sym rnc) ∙ told.up b)
    of_dir Down = no_more (lines_of b old.soft.ue.lines) (lines_on Down b lines) (ap (λ u. lines_of b u.lines) (sym ue) ∙ told.down b)

stage_ue : (stage : Stage) (old new : SoftState) (lines : List Line) → AtStage stage old new lines → new.ue.state.planned ≡ old.ue.state.planned
stage_ue RncTick old new lines passes = ap (λ (s : SoftState). s.ue.state.planned) passes.0.is
stage_ue (IubDown leg set) old new lines passes = ap (λ (s : SoftState). s.ue.state.planned) passes.is
stage_ue (RadioDown leg) old new lines passes = ap (λ (s : SoftState). s.ue.state.planned) passes.is
stage_ue UeTick old new lines passes =
    let event : UeEvent = DownlinkFrame passes.hears.heard in
    ue_stays passes.mid.ue.state UeTicks new.ue.state new.ue.last tt (ue_step passes.mid new UeTicks passes.ticks.0)
    ∙ ue_stays old.ue.state event passes.mid.ue.state passes.mid.ue.last tt (ue_step old passes.mid event passes.hears.comes)
stage_ue (RadioUp leg) old new lines passes = ap (λ (s : SoftState). s.ue.state.planned) passes.is
stage_ue (IubUp set leg) old new lines passes = ap (λ u. u.state.planned) (up_change (over (uplink_of old) set old.cfn) set leg old new lines passes).ue
stage_ue (Combine set) old new lines passes = ap (λ u. u.state.planned) (set_change (over (uplink_of old) set old.cfn) set old new lines passes).ue

-- what happens between two radio frames
between_small : (old : SoftState) (event : Event) (new : SoftState) (lines : List Line) → AreFew old → Happens old event new lines → AreSmall lines
between_small old (OfferedUnit Up b octets bits) new lines few happens = ue_small old new (UeOffered b octets bits) lines few happens.0 happens.1
between_small old (OfferedUnit Down b octets bits) new lines few happens = rnc_small old new (RncOffered b octets bits) lines few happens.0 happens.1
between_small old (BlockedCombination Up c on) new lines few happens = ue_small old new (UeBlocked c on) lines few happens.0 happens.1
between_small old (BlockedCombination Down c on) new lines few happens = rnc_small old new (RncBlocked c on) lines few happens.0 happens.1
between_small old (Damages leg damage) new lines few happens = subst AreSmall (sym happens.1) tt

-- a move keeps the bearers few
between_few : (old : Point) (event : Event) (new : Point) (lines : List Line) → AreFew old.soft → HappensBetween old event new lines → AreFew new.soft
between_few old event new lines few step =
    let stays = between_stays 0 old.soft event step.soft lines step.happens in
    subst (λ (p : Point). AreFew p.soft) (sym step.is) (few_stay old.soft step.soft stays.ue_active stays.rnc_active few)

behind_few : (soft : SoftState) (next : Option Stage) → AreFew soft → AreFew (behind soft next).soft
behind_few soft None few = record { ue = few.ue; rnc = few.rnc }
behind_few soft (Some next) few = few

passes_few : (old new : Point) (lines : List Line) → AreFew old.soft → Passes old new lines → AreFew new.soft
passes_few old new lines few step =
    let ue = stage_ue old.stage old.soft step.soft lines step.passes in
    let rnc = (stage_steady old.stage old.soft step.soft lines step.passes).1 in
    subst (λ (p : Point). AreFew p.soft) (sym step.is) (behind_few step.soft (next_stage old.soft.count old.stage) (few_stay old.soft step.soft ue rnc few))

-- the text of a stage
stage_rows : (quiet : Bool) (dir : Dir) (b : ℕ) (old new : Point) (lines : List Line) (leg : Option ℕ) → leg_of old.stage ≡ leg → b < 2 ^ 64 → AreFew old.soft → Passes old new lines → HasRows dir b (led leg (shown quiet (text_of lines))) lines
stage_rows quiet dir b old new lines None is low few step = own_rows quiet dir b lines low (stage_small old.stage old.soft step.soft lines is few step.passes)
stage_rows quiet dir b old new lines (Some k) is low few step = leg_rows k quiet dir b lines (leg_off old new lines k is step dir b)

-- a run
pub run_rows : (quiet : Bool) (dir : Dir) (b : ℕ) (moves : List Move) (old new : Point) (lines : List Line) (run : Runs old moves new lines) → b < 2 ^ 64 → AreFew old.soft → HasRows dir b (shown_in quiet moves old new lines run) lines
run_rows quiet dir b [] old new lines run low few = subst (HasRows dir b []) (sym run.1) (record { whole = refl; got = refl })
run_rows quiet dir b (Between event ∷ moves) old new lines run low few =
    let own = own_rows quiet dir b run.own low (between_small old.soft event run.step.soft run.own few run.step.happens) in
    let later = run_rows quiet dir b moves run.next new run.rest run.later low (between_few old event run.next run.own few run.step) in
    subst (HasRows dir b (shown quiet (text_of run.own) ++ shown_in quiet moves run.next new run.rest run.later)) (sym run.reported)
    (both_rows dir b (shown quiet (text_of run.own)) (shown_in quiet moves run.next new run.rest run.later) run.own run.rest own later)
run_rows quiet dir b (Next ∷ moves) old new lines run low few =
    let own = stage_rows quiet dir b old run.next run.own (leg_of old.stage) refl low few run.step in
    let later = run_rows quiet dir b moves run.next new run.rest run.later low (passes_few old run.next run.own few run.step) in
    subst (HasRows dir b (led (leg_of old.stage) (shown quiet (text_of run.own)) ++ shown_in quiet moves run.next new run.rest run.later)) (sym run.reported)
    (both_rows dir b (led (leg_of old.stage) (shown quiet (text_of run.own))) (shown_in quiet moves run.next new run.rest run.later) run.own run.rest own later)
