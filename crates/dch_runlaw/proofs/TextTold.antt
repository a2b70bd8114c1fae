-- The lines of a run: those on a bearer's units are what its ends have reported of them.
use Rattle.std.proofs.Common.{◌≡◌, ◌<◌, ◌≤◌, length, ◌^◌, ◌∙◌, ◌++◌, ℕ, List, [], ◌∷◌, Bool, refl, sym, ap, subst, append_assoc}
use Rattle.std.proofs.lemmas.List.{append-nil}
use Rattle.dch_types.specs.declared.channel.Dir.{Dir}
use Rattle.dch_types.specs.declared.channel.Dir.TheVariants.{Up, Down}
use Rattle.dch_accept.specs.Plans.{Planned}
use Rattle.dch_config.specs.Good.{IsGood}
use Rattle.dch_script.specs.Lines.{lines_of as rows}
use Rattle.dch_node.specs.Lines.{Line}
use Rattle.dch_script.specs.LineText.{text_of}
use Rattle.dch_lines.specs.Shown.{shown}
use Rattle.dch_linkcmd.specs.UeState.{BlockedCombination as UeBlocked, Event as UeEvent, OfferedUnit as UeOffered, State as UeState}
use Rattle.dch_linkcmd.specs.RncState.{BlockedCombination as RncBlocked, Event as RncEvent, OfferedUnit as RncOffered, State as RncState}
use Rattle.dch_linkcmd.specs.Courses.{Course}
use Rattle.dch_linkcmd.specs.Events.{BlockedCombination, Damages, Event as LinkEvent, Happens, OfferedUnit}
use Rattle.dch_linkcmd.specs.LinkLink.{LinkState, opened_link}
use Rattle.dch_linkcmd.specs.LinkStages.{RncReports, UeReports}
use Rattle.dch_linkcmd.specs.Within.{RncWithin, UeWithin}
use Rattle.dch_runlaw.specs.Frames.{lines_below}
use Rattle.dch_runlaw.specs.Runs.{Between, Event, Frame, Runs, Steps}
use Rattle.dch_runlaw.specs.Parts.{GoesOver}
use Rattle.dch_runlaw.proofs.Changing.{IsChanged, changed_is}
use Rattle.dch_runlaw.proofs.Keeping.{but_rnc, but_ue, rnc_lines, rnc_step, ue_lines, ue_step}
use Rattle.dch_runlaw.specs.TextDiffering.{false_rows, falses}
use Rattle.dch_runlaw.specs.Directions.{lines_on}
use Rattle.dch_runlaw.specs.Lines.{lines_of}
use Rattle.dch_runlaw.specs.Rows.{AreSmall, got_rows, gots, rows_of}
use Rattle.dch_runlaw.specs.TextTold.{AreFewBearers, AreFewChannels, IsRead, IsTold, ShowsUnits, TellsFalse}
use Rattle.dch_runlaw.proofs.TextDiffering.{rows_false}
use Rattle.dch_runlaw.proofs.BlocksTaken.{lines-append}
use Rattle.dch_runlaw.proofs.Directions.{off_is, on-append, on_is}
use Rattle.dch_runlaw.proofs.TextListed.{listed}
use Rattle.dch_runlaw.proofs.TextEnds.{IsOwn, rnc_own, rnc_stays, ue_own, ue_stays}
use Rattle.dch_runlaw.proofs.TextFrames.{frame_told}
use Rattle.dch_lines.proofs.TextRows.{text_rows}
use Rattle.dch_runlaw.proofs.Rows.{rows_got}
use Rattle.dch_runlaw.proofs.TextShowing.{seen_false, seen_got, shown_rows}
use Rattle.dch_runlaw.proofs.Small.{gots_on, small_append}
use Rattle.dch_runlaw.proofs.TextLow.{low_append}

-- what an end has reported stays, or goes on
stays : (dir : Dir) (b : ℕ) (old new lines : List Line) → new ≡ old → lines_on dir b lines ≡ [] → lines_of b new ≡ lines_of b old ++ lines_on dir b lines
stays dir b old new lines e f = ap (lines_of b) e ∙ sym (append-nil (lines_of b old)) ∙ ap (λ l. lines_of b old ++ l) (sym f)

grows : (dir : Dir) (b : ℕ) (old new said lines : List Line) → new ≡ old ++ said → lines_on dir b lines ≡ lines_of b said → lines_of b new ≡ lines_of b old ++ lines_on dir b lines
grows dir b old new said lines e f = ap (lines_of b) e ∙ lines-append b old said ∙ ap (λ l. lines_of b old ++ l) (sym f)

-- a step of the terminal, or of the network controller, but a change
ue_told : (old new : LinkState) (e : UeEvent) (lines : List Line) → UeWithin e → UeReports old e new lines → IsTold old new lines
ue_told old new e lines within step =
    let same = but_ue old new e step.0 in
    let own : IsOwn Down old.ue.state.planned.config new.ue.last.lines = ue_own old.ue.state e new.ue.state new.ue.last (ue_step old new e step.0) in
    let keeps : new.ue.state.planned ≡ old.ue.state.planned = ue_stays old.ue.state e new.ue.state new.ue.last within (ue_step old new e step.0) in
    subst (IsTold old new) (sym step.1) (record {
      up = λ b. stays Up b old.rnc.lines new.rnc.lines new.ue.last.lines (ap (λ (c : Course RncState RncEvent). c.lines) same.rnc) (off_is Down Up b new.ue.last.lines refl own.goes);
      down = λ b. grows Down b old.ue.lines new.ue.lines new.ue.last.lines new.ue.last.lines (ue_lines old new e step.0) (on_is Down b new.ue.last.lines own.goes);
      small = λ few. own.small few.ue;
      low = λ few. own.low;
      ue_stays = keeps;
      rnc_stays = ap (λ (c : Course RncState RncEvent). c.state.planned) same.rnc;
    })

rnc_told : (old new : LinkState) (e : RncEvent) (lines : List Line) → RncWithin e → RncReports old e new lines → IsTold old new lines
rnc_told old new e lines within step =
    let same = but_rnc old new e step.0 in
    let own : IsOwn Up old.rnc.state.planned.config new.rnc.last.lines = rnc_own old.rnc.state e new.rnc.state new.rnc.last (rnc_step old new e step.0) in
    let keeps : new.rnc.state.planned ≡ old.rnc.state.planned = rnc_stays old.rnc.state e new.rnc.state new.rnc.last within (rnc_step old new e step.0) in
    subst (IsTold old new) (sym step.1) (record {
      up = λ b. grows Up b old.rnc.lines new.rnc.lines new.rnc.last.lines new.rnc.last.lines (rnc_lines old new e step.0) (on_is Up b new.rnc.last.lines own.goes);
      down = λ b. stays Down b old.ue.lines new.ue.lines new.rnc.last.lines (ap (λ (c : Course UeState UeEvent). c.lines) same.ue) (off_is Up Down b new.rnc.last.lines refl own.goes);
      small = λ few. own.small few.rnc;
      low = λ few. own.low;
      ue_stays = ap (λ (c : Course UeState UeEvent). c.state.planned) same.ue;
      rnc_stays = keeps;
    })

nothing_told : (link : LinkState) → IsTold link link []
nothing_told link = record {
  up = λ b. sym (append-nil (lines_of b link.rnc.lines));
  down = λ b. sym (append-nil (lines_of b link.ue.lines));
  small = λ few. tt;
  low = λ few. tt;
  ue_stays = refl;
  rnc_stays = refl;
}

between_told : (old : LinkState) (e : LinkEvent) (new : LinkState) (lines : List Line) → Happens old e new lines → IsTold old new lines
between_told old (OfferedUnit Up b octets bits) new lines step = ue_told old new (UeOffered b octets bits) lines tt step
between_told old (OfferedUnit Down b octets bits) new lines step = rnc_told old new (RncOffered b octets bits) lines tt step
between_told old (BlockedCombination Up c on) new lines step = ue_told old new (UeBlocked c on) lines tt step
between_told old (BlockedCombination Down c on) new lines step = rnc_told old new (RncBlocked c on) lines tt step
between_told old (Damages damage) new lines step =
    let t = nothing_told old in
    subst (IsTold old new) (sym step.1) (subst (λ (l : LinkState). IsTold old l []) (sym step.0) (record { up = t.up; down = t.down; small = λ few. tt; low = λ few. tt; ue_stays = refl; rnc_stays = refl }))

step_told : (old : LinkState) (e : Event) (new : LinkState) (lines : List Line) → Steps old e new lines → IsTold old new lines
step_told old (Between event) new lines step = between_told old event new lines step
step_told old Frame new lines step =
    let f = step.frame in
    let t = frame_told old new lines f in
    record {
      up = λ b. grows Up b old.rnc.lines new.rnc.lines (f.rnc_output.lines ++ lines_below f.taken 8) lines f.rnc_reported (t.up b);
      down = λ b. grows Down b old.ue.lines new.ue.lines (f.kept_output.lines ++ f.ue_output.lines) lines f.ue_reported (t.down b);
      small = t.small;
      low = t.low;
      ue_stays = t.ue_stays;
      rnc_stays = t.rnc_stays;
    }

-- one part behind another
behind : (dir : Dir) (b : ℕ) (old next new xs ys : List Line) → lines_of b next ≡ lines_of b old ++ lines_on dir b xs → lines_of b new ≡ lines_of b next ++ lines_on dir b ys → lines_of b new ≡ lines_of b old ++ lines_on dir b (xs ++ ys)
behind dir b old next new xs ys e f = f ∙ ap (λ l. l ++ lines_on dir b ys) e ∙ append_assoc (lines_of b old) (lines_on dir b xs) (lines_on dir b ys) ∙ ap (λ l. lines_of b old ++ l) (sym (on-append dir b xs ys))

bearers_stay : (old new : LinkState) → new.ue.state.planned ≡ old.ue.state.planned → new.rnc.state.planned ≡ old.rnc.state.planned → AreFewBearers old → AreFewBearers new
bearers_stay old new e f few = record {
  ue = subst (λ (p : Planned). length p.config.bearers ≤ 16) (sym e) few.ue;
  rnc = subst (λ (p : Planned). length p.config.bearers ≤ 16) (sym f) few.rnc;
}

channels_stay : (old new : LinkState) → new.rnc.state.planned ≡ old.rnc.state.planned → AreFewChannels old → AreFewChannels new
channels_stay old new f few = record {
  uplink = subst (λ (p : Planned). length p.config.uplink.side.channels ≤ 8) (sym f) few.uplink;
  downlink = subst (λ (p : Planned). length p.config.downlink.side.channels ≤ 8) (sym f) few.downlink;
}

both_told : (old next new : LinkState) (xs ys : List Line) → IsTold old next xs → IsTold next new ys → IsTold old new (xs ++ ys)
both_told old next new xs ys first later = record {
  up = λ b. behind Up b old.rnc.lines next.rnc.lines new.rnc.lines xs ys (first.up b) (later.up b);
  down = λ b. behind Down b old.ue.lines next.ue.lines new.ue.lines xs ys (first.down b) (later.down b);
  small = λ few. small_append xs ys (first.small few) (later.small (bearers_stay old next first.ue_stays first.rnc_stays few));
  low = λ few. low_append xs ys (first.low few) (later.low (channels_stay old next first.rnc_stays few));
  ue_stays = later.ue_stays ∙ first.ue_stays;
  rnc_stays = later.rnc_stays ∙ first.rnc_stays;
}

pub run_told : (old : LinkState) (events : List Event) (new : LinkState) (lines : List Line) → Runs old events new lines → IsTold old new lines
run_told old [] new lines run = subst (IsTold old new) (sym run.1) (subst (λ (l : LinkState). IsTold old l []) (sym run.0) (nothing_told old))
run_told old (event ∷ events) new lines run =
    subst (IsTold old new) (sym run.reported) (both_told old run.next new run.own run.rest (step_told old event run.next run.own run.step) (run_told run.next events new run.rest run.later))

-- where the configuration of both ends is a good one
pub few_bearers : (planned : Planned) (link : LinkState) → IsGood planned.config → link.ue.state.planned ≡ planned → link.rnc.state.planned ≡ planned → AreFewBearers link
few_bearers planned link good ue rnc = record {
  ue = subst (λ (p : Planned). length p.config.bearers ≤ 16) (sym ue) good.few;
  rnc = subst (λ (p : Planned). length p.config.bearers ≤ 16) (sym rnc) good.few;
}

few_channels : (planned : Planned) (link : LinkState) → IsGood planned.config → link.rnc.state.planned ≡ planned → AreFewChannels link
few_channels planned link good rnc = record {
  uplink = subst (λ (p : Planned). length p.config.uplink.side.channels ≤ 8) (sym rnc) good.uplink.side.few;
  downlink = subst (λ (p : Planned). length p.config.downlink.side.channels ≤ 8) (sym rnc) good.downlink.side.few;
}

-- what is shown of lines, where those on units are what both ends have reported
pub lines_shown : (quiet : Bool) (lines : List Line) (link : LinkState) → AreSmall lines → ((b : ℕ) → lines_of b link.rnc.lines ≡ lines_on Up b lines) → ((b : ℕ) → lines_of b link.ue.lines ≡ lines_on Down b lines) → IsRead link (shown quiet (text_of lines))
lines_shown quiet lines link small up down =
    let all = shown_rows quiet lines in
    record {
      whole = all.1;
      up = λ b low. ap (got_rows Up b) all.0 ∙ seen_got quiet Up b lines ∙ rows_got Up b lines low small ∙ ap rows_of (gots_on Up b lines ∙ ap (gots Up b) (sym (up b)));
      down = λ b low. ap (got_rows Down b) all.0 ∙ seen_got quiet Down b lines ∙ rows_got Down b lines low small ∙ ap rows_of (gots_on Down b lines ∙ ap (gots Down b) (sym (down b)));
    }

pub run_shown : (quiet : Bool) (planned : Planned) (first : ℕ) (events : List Event) (new : LinkState) (lines : List Line) → Runs (opened_link planned first) events new lines → IsGood planned.config → IsRead new (shown quiet (text_of lines))
run_shown quiet planned first events new lines run good =
    let t : IsTold (opened_link planned first) new lines = run_told (opened_link planned first) events new lines run in
    lines_shown quiet lines new (t.small (few_bearers planned (opened_link planned first) good refl refl)) t.up t.down

pub units_shown : (quiet : Bool) (lines : List Line) → ShowsUnits quiet lines
units_shown quiet lines =
    let all = shown_rows quiet lines in
    record {
      whole = all.1;
      same = λ dir b. ap (got_rows dir b) all.0 ∙ seen_got quiet dir b lines ∙ ap (got_rows dir b) (sym (text_rows lines).0);
    }

pub over_shown : (quiet : Bool) (planned second : Planned) (first : ℕ) (before after : List Event) (start new : LinkState) (xs ys : List Line) → GoesOver planned second first before xs start → Runs start after new ys → IsGood planned.config → IsGood second.config
    → IsRead new (shown quiet (text_of (xs ++ ys)))
over_shown quiet planned second first before after start new xs ys o run good later =
    let is : IsChanged second o.last start = changed_is second o.last start o.changes in
    let one : IsTold (opened_link planned first) o.last xs = run_told (opened_link planned first) before o.last xs o.run in
    let two : IsTold start new ys = run_told start after new ys run in
    let few : AreFewBearers start = few_bearers second start later (ap (λ (x : UeState). x.planned) is.ue) (ap (λ (x : RncState). x.planned) is.rnc) in
    lines_shown quiet (xs ++ ys) new (small_append xs ys (one.small (few_bearers planned (opened_link planned first) good refl refl)) (two.small few))
    (λ b. behind Up b [] start.rnc.lines new.rnc.lines xs ys (ap (lines_of b) is.rnc_said ∙ one.up b) (two.up b))
    (λ b. behind Down b [] start.ue.lines new.ue.lines xs ys (ap (lines_of b) is.ue_said ∙ one.down b) (two.down b))

-- what is shown of a part of a run
pub run_false : (quiet : Bool) (planned : Planned) (events : List Event) (start new : LinkState) (lines : List Line) → Runs start events new lines → IsGood planned.config → start.rnc.state.planned ≡ planned → TellsFalse lines (shown quiet (text_of lines))
run_false quiet planned events start new lines run good active = record {
  are = are;
  told = λ dir i low. listed dir i (rows (shown quiet (text_of lines))) lines (are dir i low);
}
  where
    are : (dir : Dir) (i : ℕ) → i < 2 ^ 64 → false_rows dir i (rows (shown quiet (text_of lines))) ≡ rows_of (falses dir i lines)
    are dir i low = ap (false_rows dir i) (shown_rows quiet lines).0 ∙ seen_false quiet dir i lines ∙ rows_false dir i lines low ((run_told start events new lines run).low (few_channels planned start good active))
